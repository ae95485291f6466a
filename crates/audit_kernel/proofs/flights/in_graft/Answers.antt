use Rattle.std.proofs.Common.{List, Some, map, ap, ◌∙◌}
use Rattle.graft_loader.specs.Slots.{table_of}
use Rattle.audit_state.specs.Worlds.{world_of}
use Rattle.audit_needs.specs.Stages.{stage_of}
use Rattle.audit_pieces.specs.Stores.{objects_of}
use Rattle.audit_replay.specs.declared.Mark.{Mark}
use Rattle.audit_replay.specs.Traces.{mark_of}
use Rattle.audit_kernel.specs.Runs.{leads}
use Rattle.audit_kernel.proofs.flights.in_graft.Goals as goal

pub returns-clause-kept : goal.returns-clause-kept
returns-clause-kept c =
    let s = c.args.setting.now in
    c.in_ok-trace.ensures c.args.number
    ∙ ap (λ (ks : List Mark). leads (world_of s.world) (table_of s.images)
    (objects_of c.args.store.now) c.args.p (Some (record {
      number = c.args.number;
      stage = stage_of c.args.stage;
      marks = Some (map mark_of ks);
    }))) c.deref.ensures.value
