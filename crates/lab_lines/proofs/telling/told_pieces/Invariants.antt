use Rattle.std.proofs.Common.{[], drop}
use Rattle.lab_lines.specs.Told.{Tells, lines_in}
use Rattle.lab_lines.proofs.telling.told_pieces.Given as goal

abbrev pub invariant-loop-i : goal.invariant-loop-i
invariant-loop-i l =
    Tells [] l.out.items (lines_in l.pieces) (lines_in (drop l.next l.pieces))
