use Rattle.std.proofs.Common.{arith}
use Rattle.text_words.proofs.Digits.{Digits-small}
use Rattle.text_words.proofs.words.number_of.Goals as goal

pub overflow_mul-value : goal.overflow_mul-value
overflow_mul-value c = omega (arith, Digits-small _ _ _ c.loop-b.invariant (omega arith))

pub overflow_add-value : goal.overflow_add-value
overflow_add-value c = omega (arith, Digits-small _ _ _ c.loop-b.invariant (omega arith))
