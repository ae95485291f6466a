use Rattle.std.proofs.Common.{◌≡◌, ℕ, List, map, drop}
use Rattle.kernel_model.specs.History as model
use Rattle.graft_loader.specs.Slots.{table_of}
use Rattle.audit_state.specs.Worlds.{world_of}
use Rattle.audit_replay.specs.Traces.{trace_of, mark_of}
use Rattle.audit_replay.proofs.marks.marks_on.Given as goal

-- what is left to be run leads where all of it leads
abbrev pub invariant-loop-mark : goal.invariant-loop-mark
invariant-loop-mark l =
    (bytes : ℕ → List ℕ) →
    model.marks_on (world_of l.place.world.now) (table_of l.place.images.now) l.place.process
    (map mark_of (drop l.mark-index l.marks)) (trace_of bytes l.trace)
    ≡ model.marks_on (world_of l.place.world.now) (table_of l.place.images.now) l.place.process
    (map mark_of l.marks) (trace_of bytes l.fn.trace)
