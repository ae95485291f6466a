use Rattle.std.proofs.Common.{◌∙◌}
use Rattle.audit_kernel.proofs.Giving.{range_is}
use Rattle.audit_kernel.proofs.steps.given_of.Goals as goal

pub returns : goal.returns
returns c =
    c.in_ok-body.ensures
    ∙ range_is c.args.memory.now 2048 c.args.count c.requires.room
