use Rattle.std.proofs.Common.{Option, option_map, ap, ◌∙◌}
use Rattle.kernel_model.specs.Locks.{Hindrance}
use Rattle.kernel_model.specs.Blocking.{blocker_from}
use Rattle.audit_kernel.specs.Runs.{kernel_of}
use Rattle.audit_kernel.proofs.Run.blocker_among.Goals as goal

pub returns : goal.returns
returns c =
    c.blocker_by.ensures
    ∙ ap (λ (h : Option Hindrance). option_map (blocker_from (kernel_of c.args.self.now)) h)
    c.in_ok-hindrance.ensures
