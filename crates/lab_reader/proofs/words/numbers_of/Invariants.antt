use Rattle.std.proofs.Common.{◌≡◌, length}
use Rattle.lab_reader.specs.Words.{numbers_of, numbers_after}
use Rattle.lab_reader.proofs.words.numbers_of.Given as goal

abbrev pub invariant-loop-part : goal.invariant-loop-part
invariant-loop-part l = numbers_of l.fn.word ≡ numbers_after l.numbers.items l.parts

abbrev pub decreases-loop-part : goal.decreases-loop-part
decreases-loop-part l = length l.parts
