use Rattle.std.proofs.Common.{◌≡◌, drop}
use Rattle.audit_levels.specs.Levels.{touched_of, joined_rows}
use Rattle.audit_levels.proofs.touched.join.Given as goal

abbrev pub invariant-loop-row : goal.invariant-loop-row
invariant-loop-row l =
    joined_rows (touched_of l.from) (drop l.row-index l.from) (touched_of l.rows.items)
    ≡ joined_rows (touched_of l.from) l.from (touched_of l.fn.rows.items)
