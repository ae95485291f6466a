use Rattle.std.proofs.Common.{ℕ, Bool, ◌==◌, ◌&&◌, not, ◌∙◌}
use Rattle.kernel_model.specs.AllCalls.{all_calls}
use Rattle.kernel_model.specs.Locks.{hinders}
use Rattle.kernel_model.specs.Blocking.{holds}
use Rattle.audit_kernel.specs.Runs.{kernel_of}
use Rattle.audit_kernel.proofs.Holding.{bare_holds_nothing}
use Rattle.audit_kernel.proofs.Run.lowest_holder.Goals as goal

pub returns : goal.returns
returns c =
    let k = kernel_of c.args.self.now in
    let a = c.args in
    c.first_holder.ensures
    ∙ c.requires.all (λ q. not (q == a.p) && hinders a.object a.mode (holds all_calls k q))
    (λ q bare. bare_holds_nothing k a.p q a.object a.mode bare)
