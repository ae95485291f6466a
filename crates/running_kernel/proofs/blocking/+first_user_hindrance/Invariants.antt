use Rattle.std.proofs.Common.{length}
use Rattle.running_kernel.proofs.blocking.+first_user_hindrance.Given as goal

abbrev pub decreases-first_user_hindrance : goal.decreases-first_user_hindrance
decreases-first_user_hindrance g l = length l.needs.now
