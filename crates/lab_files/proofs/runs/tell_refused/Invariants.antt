use Rattle.std.proofs.Common.{length}
use Rattle.lab_files.proofs.runs.tell_refused.Given as goal

abbrev pub decreases-loop-line : goal.decreases-loop-line
decreases-loop-line l = length l.lines
