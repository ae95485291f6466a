use Rattle.std.proofs.Common.{[], ◌∷◌, sym, ap, ◌∙◌}
use Rattle.kernel_data.specs.declared.Kind.TheVariants.{Steps, Records, Locks}
use Rattle.kernel_data.specs.declared.RawRow.{RawRow}
use Rattle.kernel_data.specs.Objects.{AcctValue}
use Rattle.audit_kernel.proofs.Run.account_row.Goals as goal

pub returns : goal.returns
returns c =
    ap (λ (a : AcctValue). RawRow.Acct c.args.p (a.balance Steps ∷ a.balance Records
    ∷ a.balance Locks ∷ a.spent Steps ∷ a.spent Records ∷ a.spent Locks ∷ []))
    (c.account-a.ensures ∙ sym c.accounts_at.ensures)
