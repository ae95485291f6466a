use Rattle.std.proofs.Common.{length}
use Rattle.audit_kernel.proofs.Run.+first_holder.Given as goal

abbrev pub decreases-first_holder : goal.decreases-first_holder
decreases-first_holder l = length l.holders.now
