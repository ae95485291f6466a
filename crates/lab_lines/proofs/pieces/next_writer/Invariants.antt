use Rattle.std.proofs.Common.{length}
use Rattle.lab_lines.proofs.pieces.next_writer.Given as goal

abbrev pub decreases-loop-line : goal.decreases-loop-line
decreases-loop-line l = length l.ahead.lines
