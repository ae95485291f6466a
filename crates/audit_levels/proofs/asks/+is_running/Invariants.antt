use Rattle.std.proofs.Common.{length}
use Rattle.audit_levels.proofs.asks.+is_running.Given as goal

abbrev pub decreases-is_running : goal.decreases-is_running
decreases-is_running l = length l.levels.now
