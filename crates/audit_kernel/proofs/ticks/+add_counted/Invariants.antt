use Rattle.std.proofs.Common.{length}
use Rattle.audit_kernel.proofs.ticks.+add_counted.Given as goal

abbrev pub decreases-add_counted : goal.decreases-add_counted
decreases-add_counted l = length l.order.now
