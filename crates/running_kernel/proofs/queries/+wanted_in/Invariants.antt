-- Each turn has one need less.
use Rattle.std.proofs.Common.{length}
use Rattle.running_kernel.proofs.queries.+wanted_in.Given as goal

abbrev pub decreases-wanted_in : goal.decreases-wanted_in
decreases-wanted_in l = length l.needs.now
