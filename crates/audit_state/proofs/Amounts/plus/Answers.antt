use Rattle.std.proofs.Common.{◌≡◌, ◌+◌, ℕ, ap, ◌∙◌}
use Rattle.kernel_model.specs.Objects.{at_kind}
use Rattle.audit_state.specs.Accounts.{amount_of}
use Rattle.audit_state.proofs.Amounts.plus.Goals as goal

pub returns : goal.returns
returns c =
    let a = amount_of c.args.self.now in
    let more : c.in_ok-more.more ≡ a c.args.kind + c.args.n =
    c.in_ok-more.ensures ∙ ap (λ (x : ℕ). x + c.args.n) c.of.ensures in
    c.with.ensures ∙ ap (λ (x : ℕ). at_kind c.args.kind x a) more
