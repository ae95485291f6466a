use Rattle.std.proofs.Common.{length}
use Rattle.audit_kernel.proofs.call_rows.+add_log.Given as goal

abbrev pub decreases-add_log : goal.decreases-add_log
decreases-add_log l = length l.levels.now
