use Rattle.std.proofs.Common.{length}
use Rattle.audit_kernel.proofs.Run.+add_all_records.Given as goal

abbrev pub decreases-add_all_records : goal.decreases-add_all_records
decreases-add_all_records l = length l.processes.now
