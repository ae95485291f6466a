use Rattle.std.proofs.Common.{◌≡◌, length, map}
use Rattle.lab_reader.specs.Words.{joined, joined_after, plain_word, words_before}
use Rattle.lab_reader.proofs.grafts.in_decimal.Given as goal

abbrev pub invariant-loop-word : goal.invariant-loop-word
invariant-loop-word l =
    joined (map plain_word (words_before l.fn.words))
    ≡ joined_after l.text.items (map plain_word (words_before l.words))

abbrev pub decreases-loop-word : goal.decreases-loop-word
decreases-loop-word l = length l.words
