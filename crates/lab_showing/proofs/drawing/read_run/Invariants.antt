use Rattle.std.proofs.Common.{length}
use Rattle.lab_showing.proofs.drawing.read_run.Given as goal

abbrev pub decreases-loop-next : goal.decreases-loop-next
decreases-loop-next l = length l.lines
