use Rattle.std.proofs.Common.{◌≡◌, take}
use Rattle.audit_kernel.proofs.rows.queue_rows.Given as goal

abbrev pub invariant-loop-row : goal.invariant-loop-row
invariant-loop-row l = l.rows ≡ take l.row-index l.queue
