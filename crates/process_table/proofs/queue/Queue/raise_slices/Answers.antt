use Rattle.process_table.proofs.Flags.{flags_stay}
use Rattle.process_table.proofs.Rows.{living-slice}
use Rattle.process_table.proofs.queue.Queue.raise_slices.Goals as goal

pub invariant_of-self : goal.invariant_of-self
invariant_of-self c = rw c.raise_slices.ensures (flags_stay _ _ _ (λ q. living-slice q c.args.p _) c.self.invariant)
