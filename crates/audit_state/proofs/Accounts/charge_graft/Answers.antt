use Rattle.std.proofs.Common.{◌≡◌, Some, ap, ◌∙◌}
use Rattle.kernel_model.specs.Objects.{AcctValue, GraftValue}
use Rattle.kernel_model.specs.Charges.{spend, taken_from}
use Rattle.audit_state.specs.Accounts.{accounts_of, account_of, graft_of}
use Rattle.audit_state.proofs.Charging.{both_changed, one_by_one}
use Rattle.audit_state.proofs.Accounts.charge_graft.Goals as goal

pub returns : goal.returns
returns c =
    let a = accounts_of c.args.self.now in
    let q = c.args.q in
    let pt = c.args.pt in
    let spent : account_of c.in_ok-spent.spent ≡ spend c.args.kind (a.acct q) =
    c.in_ok-spent.ensures ∙ ap (spend c.args.kind) c.account.ensures in
    one_by_one a (accounts_of c.put_graft.new.self) (accounts_of c.put_account.new.self) q pt
    (Some (graft_of c.taken_from.result))
    (account_of c.in_ok-spent.spent) c.in_ok-put_graft.ensures c.in_ok-put_account.ensures
    ∙ ap (λ (g : GraftValue). both_changed q pt (Some g) (account_of c.in_ok-spent.spent) a)
    c.taken_from.ensures
    ∙ ap (λ (x : AcctValue). both_changed q pt
    (Some (taken_from c.args.kind (graft_of c.args.g.now))) x a) spent
