use Rattle.std.proofs.Common.{length}
use Rattle.audit_kernel.proofs.holds.+hold_at.Given as goal

abbrev pub decreases-hold_at : goal.decreases-hold_at
decreases-hold_at l = length l.levels.now
