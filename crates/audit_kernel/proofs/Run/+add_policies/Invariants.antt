use Rattle.std.proofs.Common.{length}
use Rattle.audit_kernel.proofs.Run.+add_policies.Given as goal

abbrev pub decreases-add_policies : goal.decreases-add_policies
decreases-add_policies l = length l.kinds.now
