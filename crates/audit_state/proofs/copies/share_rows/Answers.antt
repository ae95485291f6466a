use Rattle.std.proofs.Common.{List, Option, map, ap, ◌∙◌}
use Rattle.std.proofs.lemmas.List.{take_all}
use Rattle.audit_table.specs.declared.Row.{Row}
use Rattle.audit_state.specs.declared.Kept.{Kept}
use Rattle.audit_state.specs.Rows.{kept_row}
use Rattle.audit_state.proofs.Mapped.{same_segments}
use Rattle.audit_state.proofs.copies.share_rows.Goals as goal

pub returns : goal.returns
returns c =
    same_segments c.loop-row.shared.items c.args.rows.now
    (c.loop-row.invariant
    ∙ ap (λ (rs : List (Row (Option Kept))). map kept_row rs)
    (take_all c.loop-row.row-index c.args.rows.now c.loop-row-test.false))
