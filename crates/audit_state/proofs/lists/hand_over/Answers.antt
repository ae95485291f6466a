use Rattle.std.proofs.Common.{arith}
use Rattle.audit_state.specs.Rows.{row_through, handed}
use Rattle.audit_state.proofs.Stepping.{map_step}
use Rattle.audit_state.proofs.lists.hand_over.Goals as goal

pub loop-row-preserved : goal.loop-row-preserved
loop-row-preserved c =
    map_step (row_through (handed c.args.from c.args.to)) _ _ _ _ _
    (omega arith) c.loop-row.invariant c.handed_row.ensures
