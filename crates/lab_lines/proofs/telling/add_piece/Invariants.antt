use Rattle.std.proofs.Common.{length, filter}
use Rattle.lab_lines.specs.Told.{Tells, is_line, lines_of}
use Rattle.lab_lines.proofs.telling.add_piece.Given as goal

abbrev pub invariant-loop-line : goal.invariant-loop-line
invariant-loop-line l =
    Tells l.initial.out.items l.out.items (lines_of l.piece) (filter is_line l.lines)

abbrev pub decreases-loop-line : goal.decreases-loop-line
decreases-loop-line l = length l.lines
