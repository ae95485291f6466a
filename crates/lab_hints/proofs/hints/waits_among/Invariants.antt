use Rattle.std.proofs.Common.{length}
use Rattle.lab_hints.proofs.hints.waits_among.Given as goal

abbrev pub decreases-loop-line : goal.decreases-loop-line
decreases-loop-line l = length l.parts
