use Rattle.std.proofs.Common.{◌≡◌}
use Rattle.lab_lines.specs.AsWanted.{rest_as_wanted}
use Rattle.lab_lines.specs.Written.{all_lines}
use Rattle.lab_lines.specs.Differences.{IsTold, is_clean, count_ahead}
use Rattle.lab_lines.proofs.testing.compare.Given as goal

-- what differs so far and ahead differs in all, and it is told
abbrev pub invariant-loop-ahead : goal.invariant-loop-ahead
invariant-loop-ahead l =
    (is_clean l.told l.ahead ≡ rest_as_wanted 0 l.fn.sheet.wants (all_lines l.fn.sheet.last l.fn.pieces))
    × IsTold l.told

abbrev pub decreases-loop-ahead : goal.decreases-loop-ahead
decreases-loop-ahead l = count_ahead l.ahead
