use Rattle.process_table.proofs.Flags.{flags_stay}
use Rattle.process_table.proofs.Rows.{living-nice}
use Rattle.process_table.proofs.queue.Queue.change_nice.Goals as goal

pub invariant_of-self : goal.invariant_of-self
invariant_of-self c =
    rw c.change_nice.ensures
    (flags_stay _ _ _ (λ q. living-nice q c.args.p c.args.v _) c.self.invariant)
