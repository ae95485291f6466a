use Rattle.std.proofs.Common.{◌≡◌, ◌++◌, drop, flat_map}
use Rattle.lab_levels.specs.Told.{row_said}
use Rattle.lab_levels.proofs.words.standing_of.Given as goal

abbrev pub invariant-loop-row : goal.invariant-loop-row
invariant-loop-row l =
    l.out.items ++ flat_map row_said (drop l.row-index l.view.rows) ≡ flat_map row_said l.view.rows
