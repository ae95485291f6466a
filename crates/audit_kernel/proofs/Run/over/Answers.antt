use Rattle.std.proofs.Common.{List, map, ap, ◌∙◌}
use Rattle.kernel_model.specs.Events.{expired}
use Rattle.audit_kernel.specs.declared.Waiter.{Waiter}
use Rattle.audit_kernel.specs.Runs.{kernel_of, waiter_of}
use Rattle.audit_kernel.proofs.Run.over.Goals as goal

pub returns : goal.returns
returns c =
    c.expired.ensures
    ∙ ap (λ (es : List Waiter). expired (kernel_of c.args.self.now) (map waiter_of es)) c.as_slice.ensures.value
