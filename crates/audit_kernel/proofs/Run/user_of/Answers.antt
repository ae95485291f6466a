use Rattle.std.proofs.Common.{ℕ, ap, sym, ◌∙◌}
use Rattle.kernel_model.specs.declared.Object.{Object}
use Rattle.kernel_model.specs.Locks.{user_of}
use Rattle.audit_pieces.specs.Stores.{objects_of, page_of}
use Rattle.audit_state.specs.Things.{things_of}
use Rattle.audit_kernel.proofs.Run.user_of.Goals as goal

pub returns-in-Lock : goal.returns-in-Lock
unfolding objects_of
returns-in-Lock c =
    let s = c.args.self.now.store in
    let users = (things_of (page_of s) s.things).lock in
    c.holder.ensures (page_of s) ∙ ap (λ (n : ℕ). users n) c.from.ensures
    ∙ sym (ap (λ (o : Object). user_of users o) c.in-Lock.is)
