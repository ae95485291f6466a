use Rattle.std.proofs.Common.{◌≡◌, length}
use Rattle.lab_reader.specs.Words.{left_of, joined_after, words_left}
use Rattle.lab_reader.proofs.words.left_of.Given as goal

abbrev pub invariant-loop-word : goal.invariant-loop-word
invariant-loop-word l = left_of l.fn.code ≡ joined_after l.left.items (words_left l.parts)

abbrev pub decreases-loop-word : goal.decreases-loop-word
decreases-loop-word l = length l.parts
