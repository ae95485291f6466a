use Rattle.std.proofs.Common.{◌∙◌}
use Rattle.process_table.proofs.Rows.{to_back-queue, living-to_back}
use Rattle.process_table.proofs.Tables.{requeued}
use Rattle.process_table.proofs.table.Procs.to_back.Goals as goal

pub invariant_of-self : goal.invariant_of-self
invariant_of-self c =
    rw c.move_back.ensures
    (requeued _ _ c.self.invariant (to_back-queue c.args.p _ c.self.invariant.sound.queue)
    (λ q living. living-to_back q c.args.p _ ∙ living))
