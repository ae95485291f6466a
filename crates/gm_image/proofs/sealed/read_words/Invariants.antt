use Rattle.std.proofs.Common.{length}
use Rattle.gm_image.proofs.Splitting.{Splits}
use Rattle.gm_image.proofs.sealed.read_words.Given as goal

abbrev pub invariant-loop-word : goal.invariant-loop-word
invariant-loop-word l = Splits l.n l.bytes l.words.items l.rest

abbrev pub decreases-loop-word : goal.decreases-loop-word
decreases-loop-word l = length l.rest
