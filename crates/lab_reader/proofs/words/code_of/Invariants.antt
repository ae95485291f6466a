use Rattle.std.proofs.Common.{◌≡◌, length}
use Rattle.lab_reader.specs.Words.{code_of, joined_after, words_before}
use Rattle.lab_reader.proofs.words.code_of.Given as goal

abbrev pub invariant-loop-word : goal.invariant-loop-word
invariant-loop-word l = code_of l.fn.line ≡ joined_after l.code.items (words_before l.parts)

abbrev pub decreases-loop-word : goal.decreases-loop-word
decreases-loop-word l = length l.parts
