use Rattle.std.proofs.Common.{ap, ◌∙◌}
use Rattle.kernel_model.specs.AllCalls.{all_calls}
use Rattle.kernel_model.specs.Kernel.{joins}
use Rattle.kernel_model.specs.Settle.{settled}
use Rattle.audit_kernel.proofs.Run.begin_at.Goals as goal

pub returns-clause-run : goal.returns-clause-run
returns-clause-run c =
    c.in_ok-settle.ensures.run ∙ ap (settled all_calls) (c.in_ok-join.ensures.run
    ∙ ap (joins c.args.p) c.in_ok-start.ensures.run)
