use Rattle.process_table.proofs.Lists.{get_or-replicate}
use Rattle.process_table.proofs.arrays.free_holders.Goals as goal

pub returns-clause-value : goal.returns-clause-value
returns-clause-value c = λ i. get_or-replicate 16 i _
