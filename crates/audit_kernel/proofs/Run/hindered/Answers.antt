use Rattle.std.proofs.Common.{ℕ, List, ap, ◌∙◌}
use Rattle.kernel_model.specs.declared.Need.{Need}
use Rattle.kernel_model.specs.AllCalls.{all_calls}
use Rattle.kernel_model.specs.Blocking as blocking
use Rattle.kernel_model.specs.GraftStep.{lock_user}
use Rattle.kernel_model.specs.Levels.{Level}
use Rattle.kernel_model.specs.Locks.{first_hindrance}
use Rattle.audit_pieces.specs.Stores.{objects_of, page_of}
use Rattle.audit_kernel.specs.Runs.{kernel_of}
use Rattle.audit_kernel.proofs.Run.hindered.Goals as goal

pub returns : goal.returns
returns c =
    let r = c.args.self.now in
    let k = kernel_of r in
    let p = c.args.p in
    let locks = blocking.holds all_calls k in
    let users = (objects_of r.store).things.lock in
    c.first_hindrance.ensures
    ∙ ap (λ (q : ℕ). first_hindrance locks users p q c.as_slice.result.now)
    (c.lock_user-q.ensures (page_of r.store) ∙ ap (λ (ls : List Level). lock_user p ls) c.levels.ensures)
    ∙ ap (λ (ns : List Need). first_hindrance locks users p (lock_user p (blocking.levels_of all_calls k p)) ns)
    (c.as_slice.ensures.value ∙ c.in_ok-put_needs.ensures)
