use Rattle.std.proofs.Common.{length}
use Rattle.audit_kernel.proofs.Run.+expired.Given as goal

abbrev pub decreases-expired : goal.decreases-expired
decreases-expired l = length l.order.now
