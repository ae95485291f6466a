use Rattle.std.proofs.Common.{arith}
use Rattle.script_text.proofs.Reading.{said-end}
use Rattle.script_text.proofs.words.nothing_left.Goals as goal

pub returns-then-is_empty : goal.returns-then-is_empty
returns-then-is_empty c = λ ns last. grind (arith, said-end)

pub returns-else-is_empty : goal.returns-else-is_empty
returns-else-is_empty c = λ ns last. grind (arith, said-end)
