-- Calls that step.
use Rattle.std.specs.Prelude.{ℕ, List, Option, Some, map}
use Rattle.kernel_model.specs.History as history
use Rattle.kernel_model.specs.Kernel as model
use Rattle.graft_loader.specs.Slots.{table_of}
use Rattle.audit_state.specs.Worlds.{world_of}
use Rattle.audit_needs.specs.declared.Stage.{Stage}
use Rattle.audit_needs.specs.Stages.{stage_of}
use Rattle.audit_pieces.specs.Stores.{objects_of}
use Rattle.audit_replay.specs.declared.Mark.{Mark}
use Rattle.audit_replay.specs.Traces.{mark_of}
use Rattle.audit_kernel.specs.declared.Run.{Run}
use Rattle.audit_kernel.specs.Runs.{run_of, leads}

-- a call in a graft
abbrev pub graft_call : ℕ → Stage → List Mark → model.Call
graft_call n t ks = record { number = n; stage = stage_of t; marks = Some (map mark_of ks) }

-- a run in which a process has this call besides
abbrev pub with_flight : ℕ → model.Call → Run → model.Run
with_flight p c r = model.with_call p (Some c) (run_of r)

-- where the history of a call leads in a run
abbrev pub leads_in : Run → ℕ → model.Call → Option history.Trace
leads_in r p c =
    leads (world_of r.setting.world) (table_of r.setting.images) (objects_of r.store) p (Some c)
