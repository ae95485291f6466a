-- Each turn has one entry less.
use Rattle.std.proofs.Common.{length}
use Rattle.running_kernel.proofs.running.Running.+rest_behind.Given as goal

abbrev pub decreases-rest_behind : goal.decreases-rest_behind
decreases-rest_behind g l = length l.entries.now
