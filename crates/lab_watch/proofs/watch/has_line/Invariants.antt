use Rattle.std.proofs.Common.{length}
use Rattle.lab_watch.proofs.watch.has_line.Given as goal

abbrev pub decreases-loop-other : goal.decreases-loop-other
decreases-loop-other l = length l.lines
