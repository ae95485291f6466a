use Rattle.lock_table.proofs.ObjectNumbers.{below}
use Rattle.lock_table.proofs.laws.numbers_are_below.Goals as goal

pub returns : goal.returns
returns c = below
