use Rattle.std.proofs.Common.{arith, cond, ◌==◌}
use Rattle.kernel_model.specs.declared.QueueRow.{QueueRow}
use Rattle.kernel_model.specs.Queue.{one_more_slice}
use Rattle.audit_state.proofs.Stepping.{map_step}
use Rattle.audit_state.proofs.lists.add_slice.Goals as goal

pub loop-row-preserved : goal.loop-row-preserved
loop-row-preserved c =
    map_step (λ (r : QueueRow). cond (r.process == c.args.q)
    (record r { slices = one_more_slice r.slices }) r) _ _ _ _ _
    (omega arith) c.loop-row.invariant c.row_with_slice.ensures
