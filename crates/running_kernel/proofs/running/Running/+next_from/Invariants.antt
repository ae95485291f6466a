-- Each look is one entry further on.
use Rattle.std.proofs.Common.{length, ◌-◌}
use Rattle.running_kernel.proofs.running.Running.+next_from.Given as goal

abbrev pub decreases-next_from : goal.decreases-next_from
decreases-next_from g l = length l.self.now.order - l.i
