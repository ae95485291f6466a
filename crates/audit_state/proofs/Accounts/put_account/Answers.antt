use Rattle.std.proofs.Common.{ℕ, ap, ◌∙◌}
use Rattle.kernel_model.specs.Objects.{AcctValue, at}
use Rattle.kernel_model.specs.Objects as model
use Rattle.audit_table.specs.Tables.{column_of}
use Rattle.audit_state.specs.Accounts.{accounts_of, account_of, no_account}
use Rattle.audit_state.proofs.Mapped.{mapped_at}
use Rattle.audit_state.proofs.Accounts.put_account.Goals as goal

pub returns : goal.returns
returns c =
    let a = c.args.self.now in
    let with : (ℕ → AcctValue) → model.Accounts = λ f. record { graft = (accounts_of a).graft; acct = f } in
    ap with (mapped_at account_of (column_of no_account c.put_one.new.rows.items)
    (column_of no_account a.accounts.items) c.args.q c.args.account
    (c.in_ok-put_one.ensures no_account
    ∙ ap (λ (n : ℕ). at n c.args.account (column_of no_account a.accounts.items)) c.from.ensures))
