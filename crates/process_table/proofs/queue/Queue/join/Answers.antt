use Rattle.process_table.proofs.Flags.{flags_joined}
use Rattle.process_table.proofs.queue.Queue.join.Goals as goal

pub invariant_of-self : goal.invariant_of-self
invariant_of-self c = rw (c.join.ensures, c.put_flag.ensures) (flags_joined _ _ _ c.requires.number c.self.invariant)
