use Rattle.call_pieces.specs.Stores.{objects_of}
use Rattle.lock_table.specs.Masks.{held}
use Rattle.running_kernel.proofs.HinderLemmas.{HasPassed}
use Rattle.running_kernel.proofs.blocking.first_hindrance.Given as goal

abbrev pub invariant-loop-need : goal.invariant-loop-need
invariant-loop-need g l = HasPassed (held l.locks) (objects_of l.store) l.p l.q l.needs l.need-index
