use Rattle.lock_table.proofs.HoldingLemmas.{none_holding}
use Rattle.lock_table.proofs.TakerLemmas.{none_taken}
use Rattle.lock_table.proofs.table.LockTable.new.Goals as goal

pub invariant_of-result : goal.invariant_of-result
invariant_of-result c = (
  c.in-Ok.ensures.size,
  none_holding c.in-Ok.calls.items c.in-Ok.ensures.free,
  c.in-Ok-nobody.ensures.size,
  none_taken c.in-Ok-nobody.takers.items c.in-Ok.calls.items c.in-Ok-nobody.ensures.free c.in-Ok.ensures.free,
  c.in-Ok.ensures.room,
  c.in-Ok-nobody.ensures.room,
)
