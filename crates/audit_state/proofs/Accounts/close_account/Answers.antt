use Rattle.std.proofs.Common.{◌≡◌, ap, ◌∙◌}
use Rattle.kernel_model.specs.Objects.{AcctValue}
use Rattle.kernel_model.specs.Pieces.{joint_account, empty_account}
use Rattle.audit_state.specs.declared.Account.{Account}
use Rattle.audit_state.specs.Accounts.{accounts_of, account_of}
use Rattle.audit_state.proofs.Charging.{with_account, no_account_is}
use Rattle.audit_state.proofs.Accounts.close_account.Goals as goal

pub returns : goal.returns
returns c =
    let a = accounts_of c.args.self.now in
    let b = accounts_of c.put_account.new.self in
    let p = c.args.p in
    let both : account_of c.in_ok-both.both ≡ joint_account (a.acct p) (a.acct 0) =
    c.in_ok-both.ensures ∙ ap (λ (x : AcctValue). joint_account x (account_of c.account-2.result)) c.account.ensures
    ∙ ap (joint_account (a.acct p)) c.account-2.ensures in
    let none : account_of c.none.result ≡ empty_account =
    ap (λ (x : Account). account_of x) c.none.ensures ∙ no_account_is in
    c.in_ok-put_account-2.ensures ∙ ap (λ (x : AcctValue). with_account p x b) none
    ∙ ap (with_account p empty_account) (c.in_ok-put_account.ensures ∙ ap (λ (x : AcctValue). with_account 0 x a) both)
