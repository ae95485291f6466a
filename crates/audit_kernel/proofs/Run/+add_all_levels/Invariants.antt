use Rattle.std.proofs.Common.{length}
use Rattle.audit_kernel.proofs.Run.+add_all_levels.Given as goal

abbrev pub decreases-add_all_levels : goal.decreases-add_all_levels
decreases-add_all_levels l = length l.processes.now
