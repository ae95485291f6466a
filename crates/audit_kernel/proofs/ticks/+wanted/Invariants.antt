use Rattle.std.proofs.Common.{length}
use Rattle.audit_kernel.proofs.ticks.+wanted.Given as goal

abbrev pub decreases-wanted : goal.decreases-wanted
decreases-wanted l = length l.needs.now
