use Rattle.std.proofs.Common.{◌≡◌, ap, ◌∙◌}
use Rattle.kernel_model.specs.Objects.{AcctValue}
use Rattle.kernel_model.specs.Pieces.{less, more}
use Rattle.audit_state.specs.Accounts.{accounts_of, account_of}
use Rattle.audit_state.proofs.Charging.{with_account, account_by_account}
use Rattle.audit_state.proofs.Accounts.give.Goals as goal

pub returns : goal.returns
returns c =
    let a = accounts_of c.args.self.now in
    let b = accounts_of c.put_account.new.self in
    let p = c.args.p in
    let q = c.args.q in
    let lighter : account_of c.less-lighter.result ≡ less c.args.kind c.args.n (a.acct p) =
    c.less-lighter.ensures ∙ ap (less c.args.kind c.args.n) c.account.ensures in
    let heavier : account_of c.in_ok-heavier.heavier ≡ more c.args.kind c.args.n (b.acct q) =
    c.in_ok-heavier.ensures ∙ ap (more c.args.kind c.args.n) c.account-2.ensures in
    account_by_account a b (accounts_of c.put_account-2.new.self) p q
    (less c.args.kind c.args.n (a.acct p)) (more c.args.kind c.args.n)
    (c.in_ok-put_account.ensures ∙ ap (λ (x : AcctValue). with_account p x a) lighter)
    (c.in_ok-put_account-2.ensures ∙ ap (λ (x : AcctValue). with_account q x b) heavier)
