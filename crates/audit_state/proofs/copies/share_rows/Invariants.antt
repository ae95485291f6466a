use Rattle.std.proofs.Common.{◌≡◌, map, take}
use Rattle.audit_state.specs.Rows.{kept_row}
use Rattle.audit_state.proofs.copies.share_rows.Given as goal

abbrev pub invariant-loop-row : goal.invariant-loop-row
invariant-loop-row l = map kept_row l.shared.items ≡ map kept_row (take l.row-index l.rows)
