use Rattle.text_words.proofs.Digits.{Digits}
use Rattle.text_words.proofs.words.number_of.Given as goal

abbrev pub invariant-loop-b : goal.invariant-loop-b
invariant-loop-b l = Digits l.word l.b-index l.value
