use Rattle.std.proofs.Common.{ℕ, ◌==◌, cond, List, ap, ◌∙◌}
use Rattle.audit_table.specs.declared.Row.{Row}
use Rattle.audit_table.specs.Tables.{column_of}
use Rattle.audit_state.specs.declared.Account.{Account}
use Rattle.audit_state.specs.Accounts.{no_account}
use Rattle.audit_kernel.proofs.Beginning.{accounts_are}
use Rattle.audit_kernel.proofs.opening.first_accounts.Goals as goal

pub returns : goal.returns
returns c =
    accounts_are c.args.grant (record { grafts = c.new.result; accounts = c.put_one.new.rows })
    c.new.ensures.items
    (λ q. ap (λ (f : ℕ → Account). f q) (c.in_ok-put_one.ensures no_account)
    ∙ ap (λ (rs : List (Row Account)). cond (q == 0) c.root_account.result (column_of no_account rs q)) c.new-accounts.ensures.items
    ∙ ap (λ (a : Account). cond (q == 0) a no_account) c.root_account.ensures)
