-- What is left leads where all of it leads.
use Rattle.std.proofs.Common.{◌≡◌, ◌-◌, ℕ, List}
use Rattle.kernel_model.specs.Needs.{free_frame}
use Rattle.audit_state.specs.Things.{things_of}
use Rattle.audit_needs.proofs.blocks.free_frame.Given as goal

abbrev pub invariant-loop-f : goal.invariant-loop-f
invariant-loop-f l =
    (bytes : ℕ → List ℕ) → free_frame (things_of bytes l.things).cache (l.count - l.f) l.f
    ≡ free_frame (things_of bytes l.things).cache l.count 0
