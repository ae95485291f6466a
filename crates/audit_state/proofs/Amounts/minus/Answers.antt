use Rattle.std.proofs.Common.{◌≡◌, ◌-◌, ℕ, ap, ◌∙◌}
use Rattle.kernel_model.specs.Objects.{at_kind}
use Rattle.audit_state.specs.Accounts.{amount_of}
use Rattle.audit_state.proofs.Amounts.minus.Goals as goal

pub returns : goal.returns
returns c =
    let a = amount_of c.args.self.now in
    let less : c.saturating_sub.result ≡ a c.args.kind - c.args.n = cc in
    c.with.ensures ∙ ap (λ (x : ℕ). at_kind c.args.kind x a) less
