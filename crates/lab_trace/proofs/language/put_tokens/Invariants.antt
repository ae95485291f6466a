use Rattle.std.proofs.Common.{length}
use Rattle.lab_trace.proofs.language.put_tokens.Given as goal

abbrev pub decreases-loop-word : goal.decreases-loop-word
decreases-loop-word l = length l.words
