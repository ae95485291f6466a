use Rattle.graft_loader.proofs.Slots.{free_table, none_there}
use Rattle.graft_loader.proofs.images.Images.new.Goals as goal

pub invariant_of-result : goal.invariant_of-result
invariant_of-result c = free_table c.in-Ok.slots.items c.in-Ok.ensures

pub returns-in-Ok-clause-table : goal.returns-in-Ok-clause-table
returns-in-Ok-clause-table c = none_there c.in-Ok.slots.items c.in-Ok.ensures
