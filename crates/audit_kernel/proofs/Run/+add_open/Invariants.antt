use Rattle.std.proofs.Common.{length}
use Rattle.audit_kernel.proofs.Run.+add_open.Given as goal

abbrev pub decreases-add_open : goal.decreases-add_open
decreases-add_open l = length l.descriptors.now
