use Rattle.std.proofs.Common.{◌≡◌, None, ap, ◌∙◌}
use Rattle.kernel_model.specs.Objects.{AcctValue}
use Rattle.kernel_model.specs.Charges as model
use Rattle.audit_state.specs.Accounts.{accounts_of, account_of, graft_of}
use Rattle.audit_state.proofs.Charging.{both_changed, one_by_one}
use Rattle.audit_state.proofs.Accounts.take_out.Goals as goal

pub returns : goal.returns
returns c =
    let a = accounts_of c.args.self.now in
    let q = c.args.q in
    let pt = c.args.pt in
    let back : account_of c.in_ok-account.account
    ≡ model.returned (graft_of c.args.g.now) (a.acct q) =
    c.in_ok-account.ensures ∙ ap (model.returned (graft_of c.args.g.now)) c.account.ensures in
    one_by_one a (accounts_of c.put_graft.new.self) (accounts_of c.put_account.new.self) q pt None
    (account_of c.in_ok-account.account) c.in_ok-put_graft.ensures c.in_ok-put_account.ensures
    ∙ ap (λ (x : AcctValue). both_changed q pt None x a) back
