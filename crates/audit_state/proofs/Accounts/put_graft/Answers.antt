use Rattle.std.proofs.Common.{ℕ, Option, None, ap, ◌∙◌}
use Rattle.kernel_model.specs.Objects.{GraftValue, at2}
use Rattle.kernel_model.specs.Objects as model
use Rattle.audit_table.specs.Tables.{table_of}
use Rattle.audit_state.specs.Accounts.{accounts_of, standing}
use Rattle.audit_state.proofs.Mapped.{mapped_at2}
use Rattle.audit_state.proofs.Accounts.put_graft.Goals as goal

pub returns : goal.returns
returns c =
    let a = c.args.self.now in
    let with : (ℕ → ℕ → Option GraftValue) → model.Accounts =
    λ f. record { graft = f; acct = (accounts_of a).acct } in
    let old = table_of None a.grafts.items in
    ap with (mapped_at2 standing (table_of None c.put.new.rows.items) old c.args.q c.args.pt c.args.graft
    (c.in_ok-put.ensures None
    ∙ ap (λ (n : ℕ). at2 n c.from-2.result c.args.graft old) c.from.ensures
    ∙ ap (λ (n : ℕ). at2 c.args.q n c.args.graft old) c.from-2.ensures))
