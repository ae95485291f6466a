use Rattle.std.proofs.Common.{arith, cond, ◌==◌}
use Rattle.kernel_model.specs.declared.QueueRow.{QueueRow}
use Rattle.kernel_model.specs.Queue.{one_more_slice}
use Rattle.process_table.proofs.Lists.{map_step}
use Rattle.process_table.proofs.arrays.count_slice.Goals as goal

pub loop-row-preserved : goal.loop-row-preserved
loop-row-preserved c =
    map_step (λ (r : QueueRow). cond (r.process == c.args.p)
    (record r { slices = one_more_slice r.slices }) r) _ _ _ _ _ (omega arith)
    c.loop-row.invariant c.raise_row.ensures
