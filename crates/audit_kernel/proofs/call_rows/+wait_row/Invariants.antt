use Rattle.std.proofs.Common.{length}
use Rattle.audit_kernel.proofs.call_rows.+wait_row.Given as goal

abbrev pub decreases-wait_row : goal.decreases-wait_row
decreases-wait_row l = length l.order.now
