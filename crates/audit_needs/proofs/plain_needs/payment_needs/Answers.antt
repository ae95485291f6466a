use Rattle.std.proofs.Common.{◌≡◌, Bool, true, false, cond, nat_lt, [], ◌∷◌, ◌++◌, sym, ap, ◌∙◌, arith}
use Rattle.std.proofs.lemmas.Bool.Decides.{nat_tests}
use Rattle.kernel_model.specs.declared.Object.TheVariants.{Acct}
use Rattle.kernel_model.specs.Needs.{exclusive}
use Rattle.kernel_model.specs.Objects.{AcctValue}
use Rattle.audit_state.specs.Accounts.{accounts_of}
use Rattle.audit_needs.proofs.NeedLists.{two_added}
use Rattle.audit_needs.proofs.plain_needs.payment_needs.Goals as goal

pub returns-then-of-from : goal.returns-then-of-from
returns-then-of-from c =
    let a = (accounts_of c.args.accounts.now).acct c.args.p in
    let has : c.of.result ≡ a.balance c.args.kind =
    c.of.ensures ∙ ap (λ (x : AcctValue). x.balance c.args.kind) c.account.ensures in
    let less = c.if-of-from.true in
    let test : nat_lt (a.balance c.args.kind) c.args.n ≡ true =
    grind (arith, nat_tests, has, c.from.ensures, less) in
    c.in_ok-exclusive.ensures
    ∙ sym (ap (λ (b : Bool). c.args.out.now.items ++ (exclusive (Acct c.args.p)
    ∷ cond b [] (exclusive (Acct c.args.q) ∷ []))) test)

pub returns-in_ok-exclusive-2 : goal.returns-in_ok-exclusive-2
returns-in_ok-exclusive-2 c =
    let a = (accounts_of c.args.accounts.now).acct c.args.p in
    let has : c.of.result ≡ a.balance c.args.kind =
    c.of.ensures ∙ ap (λ (x : AcctValue). x.balance c.args.kind) c.account.ensures in
    let more = c.if-of-from.false in
    let test : nat_lt (a.balance c.args.kind) c.args.n ≡ false =
    grind (arith, nat_tests, has, c.from.ensures, more) in
    two_added _ _ _ _ _ c.in_ok-exclusive.ensures c.in_ok-exclusive-2.ensures
    ∙ sym (ap (λ (b : Bool). c.args.out.now.items ++ (exclusive (Acct c.args.p)
    ∷ cond b [] (exclusive (Acct c.args.q) ∷ []))) test)
