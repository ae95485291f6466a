use Rattle.process_table.proofs.Rows.{length-free, spawned-queue, living-spawned}
use Rattle.process_table.proofs.Tables.{requeued}
use Rattle.process_table.proofs.table.Procs.spawn.Goals as goal

pub join-requires-clause-number : goal.join-requires-clause-number
join-requires-clause-number c = c.in_ok-process.ensures.least.below

pub join-requires-clause-room : goal.join-requires-clause-room
join-requires-clause-room c = length-free _ _ c.self.invariant.sound.queue c.in_ok-process.ensures.least

pub invariant_of-self : goal.invariant_of-self
invariant_of-self c =
    let free = c.in_ok-process.ensures.least in
    rw c.join.ensures
    (requeued _ _ c.self.invariant (spawned-queue _ _ free.below free.free
    c.self.invariant.sound.queue) (λ q living. living-spawned q _ _ living))
