use Rattle.std.proofs.Common.{arith, cond, ◌==◌}
use Rattle.kernel_model.specs.declared.QueueRow.{QueueRow}
use Rattle.audit_state.proofs.Stepping.{map_step}
use Rattle.audit_state.proofs.lists.put_nice.Goals as goal

pub loop-row-preserved : goal.loop-row-preserved
loop-row-preserved c =
    map_step (λ (r : QueueRow). cond (r.process == c.args.q) (record r { nice = c.args.v }) r) _ _ _ _ _
    (omega arith) c.loop-row.invariant c.row_with_nice.ensures
