use Rattle.std.proofs.Common.{◌≡◌, length}
use Rattle.lab_reader.specs.Words.{parts_of, words_before}
use Rattle.lab_reader.proofs.words.are_words.Given as goal

abbrev pub invariant-loop-word : goal.invariant-loop-word
invariant-loop-word l =
    words_before l.parts ≡ l.parts → words_before (parts_of l.line) ≡ parts_of l.line

abbrev pub decreases-loop-word : goal.decreases-loop-word
decreases-loop-word l = length l.parts
