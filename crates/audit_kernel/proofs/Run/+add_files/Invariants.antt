use Rattle.std.proofs.Common.{length}
use Rattle.audit_kernel.proofs.Run.+add_files.Given as goal

abbrev pub decreases-add_files : goal.decreases-add_files
decreases-add_files l = length l.processes.now
