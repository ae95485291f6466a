use Rattle.std.proofs.Common.{length}
use Rattle.lab_showing.proofs.tracing.words_asked.Given as goal

abbrev pub decreases-loop-rest : goal.decreases-loop-rest
decreases-loop-rest l = length l.rest
