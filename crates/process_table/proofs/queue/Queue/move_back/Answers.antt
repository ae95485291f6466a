use Rattle.process_table.proofs.Flags.{flags_stay}
use Rattle.process_table.proofs.Rows.{living-to_back}
use Rattle.process_table.proofs.queue.Queue.move_back.Goals as goal

pub invariant_of-self : goal.invariant_of-self
invariant_of-self c = rw c.move_back.ensures (flags_stay _ _ _ (λ q. living-to_back q c.args.p _) c.self.invariant)
