use Rattle.std.proofs.Common.{length}
use Rattle.audit_kernel.proofs.Run.+first_hindrance.Given as goal

abbrev pub decreases-first_hindrance : goal.decreases-first_hindrance
decreases-first_hindrance l = length l.needs.now
