use Rattle.lock_table.proofs.ObjectNumbers.{test_is_range}
use Rattle.lock_table.proofs.laws.test_is_range.Goals as goal

pub returns : goal.returns
returns c = test_is_range
