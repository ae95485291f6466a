use Rattle.lock_table.proofs.ObjectNumbers.{tell_apart}
use Rattle.lock_table.proofs.laws.numbers_tell_apart.Goals as goal

pub returns : goal.returns
returns c = tell_apart
