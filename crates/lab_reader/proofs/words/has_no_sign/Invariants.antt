use Rattle.std.proofs.Common.{◌≡◌, length}
use Rattle.lab_reader.specs.Words.{parts_of, words_left, wanted_of, wanted_in}
use Rattle.lab_reader.proofs.words.has_no_sign.Given as goal

abbrev pub invariant-loop-word : goal.invariant-loop-word
invariant-loop-word l = record {
  left : words_left l.parts ≡ l.parts → words_left (parts_of l.code) ≡ parts_of l.code;
  wanted : wanted_of l.code ≡ wanted_in l.parts;
}

abbrev pub decreases-loop-word : goal.decreases-loop-word
decreases-loop-word l = length l.parts
