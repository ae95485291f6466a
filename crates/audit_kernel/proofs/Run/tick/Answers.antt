use Rattle.std.proofs.Common.{ap, ◌∙◌}
use Rattle.kernel_model.specs.AllCalls.{all_calls}
use Rattle.kernel_model.specs.Events.{actions}
use Rattle.audit_kernel.proofs.Run.tick.Goals as goal

pub returns-clause-run : goal.returns-clause-run
returns-clause-run c =
    c.in_ok-actions.ensures.run ∙ ap (actions all_calls 288) c.in_ok-count.ensures.run
