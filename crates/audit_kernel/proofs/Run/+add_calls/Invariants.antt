use Rattle.std.proofs.Common.{length}
use Rattle.audit_kernel.proofs.Run.+add_calls.Given as goal

abbrev pub decreases-add_calls : goal.decreases-add_calls
decreases-add_calls l = length l.processes.now
