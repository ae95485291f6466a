use Rattle.std.proofs.Common.{arith}
use Rattle.kernel_model.specs.Pieces.{freed_by}
use Rattle.audit_state.specs.Rows.{row_through}
use Rattle.audit_state.proofs.Stepping.{map_step}
use Rattle.audit_state.proofs.lists.free_locks.Goals as goal

pub loop-row-preserved : goal.loop-row-preserved
loop-row-preserved c =
    map_step (row_through (freed_by c.args.p)) _ _ _ _ _ (omega arith) c.loop-row.invariant c.freed_row.ensures
