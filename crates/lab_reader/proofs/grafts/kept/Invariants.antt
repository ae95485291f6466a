use Rattle.std.proofs.Common.{◌≡◌, length}
use Rattle.lab_reader.specs.Words.{joined, joined_after, words_before}
use Rattle.lab_reader.proofs.grafts.kept.Given as goal

abbrev pub invariant-loop-word : goal.invariant-loop-word
invariant-loop-word l =
    joined (words_before l.fn.words) ≡ joined_after l.text.items (words_before l.words)

abbrev pub decreases-loop-word : goal.decreases-loop-word
decreases-loop-word l = length l.words
