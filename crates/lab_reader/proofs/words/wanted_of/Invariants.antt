use Rattle.std.proofs.Common.{◌≡◌, length}
use Rattle.lab_reader.specs.Words.{wanted_of, wanted_in}
use Rattle.lab_reader.proofs.words.wanted_of.Given as goal

abbrev pub invariant-loop-word : goal.invariant-loop-word
invariant-loop-word l = wanted_of l.fn.code ≡ wanted_in l.parts

abbrev pub decreases-loop-word : goal.decreases-loop-word
decreases-loop-word l = length l.parts
