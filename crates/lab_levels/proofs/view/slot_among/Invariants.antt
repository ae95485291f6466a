use Rattle.std.proofs.Common.{◌≡◌, drop}
use Rattle.lab_levels.specs.Seen as spec
use Rattle.lab_levels.proofs.view.slot_among.Given as goal

abbrev pub invariant-loop-row : goal.invariant-loop-row
invariant-loop-row l =
    spec.slot_of l.owner l.point l.rows ≡ spec.slot_of l.owner l.point (drop l.row-index l.rows)
