use Rattle.std.proofs.Common.{◌∙◌}
use Rattle.process_table.proofs.Rows.{slice-queue, living-slice}
use Rattle.process_table.proofs.Tables.{requeued}
use Rattle.process_table.proofs.table.Procs.add_slice.Goals as goal

pub invariant_of-self : goal.invariant_of-self
invariant_of-self c =
    rw c.raise_slices.ensures
    (requeued _ _ c.self.invariant (slice-queue c.args.p _ c.self.invariant.sound.queue)
    (λ q living. living-slice q c.args.p _ ∙ living))
