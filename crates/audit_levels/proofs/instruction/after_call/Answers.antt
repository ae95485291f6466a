use Rattle.std.proofs.Common.{◌∙◌}
use Rattle.graft_loader.specs.Slots.{table_of}
use Rattle.audit_machine.specs.Machine.{machine_of}
use Rattle.audit_state.specs.Worlds.{world_of}
use Rattle.audit_levels.specs.Levels.{level_of, levels_of, now_of}
use Rattle.audit_levels.proofs.Going.{if_ok}
use Rattle.audit_levels.proofs.Calls.{same_call}
use Rattle.audit_levels.proofs.instruction.after_call.Goals as goal

pub returns : goal.returns
returns c =
    if_ok c.call.result
    (λ o said bytes old same.
    said bytes
    ∙ same_call (world_of c.args.place.now.world.now) (table_of c.args.place.now.images.now)
    c.args.place.now.process
    (now_of bytes c.args.config.now) (level_of bytes c.args.l)
    (levels_of bytes c.args.config.now.levels.items)
    (machine_of c.args.l.machine) c.args.id old same)
    c.call.ensures
