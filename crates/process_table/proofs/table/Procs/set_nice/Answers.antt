use Rattle.std.proofs.Common.{◌∙◌}
use Rattle.process_table.proofs.Rows.{nice-queue, living-nice}
use Rattle.process_table.proofs.Tables.{requeued}
use Rattle.process_table.proofs.table.Procs.set_nice.Goals as goal

pub invariant_of-self : goal.invariant_of-self
invariant_of-self c =
    rw c.change_nice.ensures
    (requeued _ _ c.self.invariant (nice-queue c.args.p c.args.v _ c.requires.range c.self.invariant.sound.queue)
    (λ q living. living-nice q c.args.p c.args.v _ ∙ living))
