use Rattle.std.proofs.Common.{◌≡◌, Some, ap, ◌∙◌}
use Rattle.kernel_model.specs.Objects.{AcctValue, GraftValue}
use Rattle.kernel_model.specs.Pieces.{less, funded}
use Rattle.audit_state.specs.Accounts.{accounts_of, account_of, graft_of}
use Rattle.audit_state.proofs.Charging.{both_changed, one_by_one}
use Rattle.audit_state.proofs.Accounts.fund.Goals as goal

pub returns : goal.returns
returns c =
    let a = accounts_of c.args.self.now in
    let p = c.args.p in
    let pt = c.args.pt in
    let lighter : account_of c.less-lighter.result ≡ less c.args.kind c.args.n (a.acct p) =
    c.less-lighter.ensures ∙ ap (less c.args.kind c.args.n) c.account.ensures in
    one_by_one a (accounts_of c.put_graft.new.self) (accounts_of c.put_account.new.self) p pt
    (Some (graft_of c.in_ok-fuller.fuller)) (account_of c.less-lighter.result)
    c.in_ok-put_graft.ensures c.in_ok-put_account.ensures
    ∙ ap (λ (g : GraftValue). both_changed p pt (Some g) (account_of c.less-lighter.result) a) c.in_ok-fuller.ensures
    ∙ ap (λ (x : AcctValue). both_changed p pt (Some (funded c.args.kind c.args.n (graft_of c.args.g.now))) x a) lighter
