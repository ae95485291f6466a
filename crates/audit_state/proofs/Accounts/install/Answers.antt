use Rattle.std.proofs.Common.{ℕ, false, ap, ◌∙◌}
use Rattle.kernel_model.specs.declared.Kind.{Kind}
use Rattle.kernel_model.specs.Pieces.{with_graft}
use Rattle.audit_state.specs.declared.Amounts.{Amounts}
use Rattle.audit_state.specs.Accounts.{accounts_of, amount_of}
use Rattle.audit_state.proofs.Charging.{none_is}
use Rattle.audit_state.proofs.Accounts.install.Goals as goal

pub returns : goal.returns
returns c =
    let a = accounts_of c.args.self.now in
    let with = λ (f : Kind → ℕ). with_graft c.args.p c.args.pt
    (record { image = c.args.image; limit = c.args.limit; billed = false; balance = f }) a in
    c.in_ok-put_graft.ensures ∙ ap (λ (n : Amounts). with (amount_of n)) c.none.ensures ∙ ap with none_is
