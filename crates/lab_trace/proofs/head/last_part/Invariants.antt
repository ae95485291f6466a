use Rattle.std.proofs.Common.{length}
use Rattle.lab_trace.proofs.head.last_part.Given as goal

abbrev pub decreases-loop-part : goal.decreases-loop-part
decreases-loop-part l = length l.parts
