use Rattle.std.proofs.Common.{length}
use Rattle.lab_hints.proofs.scripts.count_words.Given as goal

abbrev pub decreases-loop-count : goal.decreases-loop-count
decreases-loop-count l = length l.words
