use Rattle.std.proofs.Common.{length}
use Rattle.audit_kernel.proofs.sights.+is_changed.Given as goal

abbrev pub decreases-is_changed : goal.decreases-is_changed
decreases-is_changed l = length l.levels.now
