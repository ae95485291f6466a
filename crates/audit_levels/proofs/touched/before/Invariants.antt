use Rattle.std.proofs.Common.{◌≡◌, ◌+◌, drop}
use Rattle.audit_levels.specs.Levels.{touches_before}
use Rattle.audit_levels.proofs.touched.before.Given as goal

abbrev pub invariant-loop-row : goal.invariant-loop-row
invariant-loop-row l =
    (l.n ≡ l.row-index) × (touches_before l.object l.rows ≡ l.n + touches_before l.object (drop l.n l.rows))
