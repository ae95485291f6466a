use Rattle.std.proofs.Common.{length}
use Rattle.audit_kernel.proofs.Run.+add_grafts.Given as goal

abbrev pub decreases-add_grafts : goal.decreases-add_grafts
decreases-add_grafts l = length l.processes.now
