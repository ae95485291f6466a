use Rattle.std.proofs.Common.{length}
use Rattle.lab_measure.proofs.steps.is_dropped.Given as goal

abbrev pub decreases-loop-line : goal.decreases-loop-line
decreases-loop-line l = length l.lines
