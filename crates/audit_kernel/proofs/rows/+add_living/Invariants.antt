use Rattle.std.proofs.Common.{length}
use Rattle.audit_kernel.proofs.rows.+add_living.Given as goal

abbrev pub decreases-add_living : goal.decreases-add_living
decreases-add_living l = length l.processes.now
