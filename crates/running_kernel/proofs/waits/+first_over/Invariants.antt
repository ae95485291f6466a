-- Each turn has one entry less.
use Rattle.std.proofs.Common.{length}
use Rattle.running_kernel.proofs.waits.+first_over.Given as goal

abbrev pub decreases-first_over : goal.decreases-first_over
decreases-first_over l = length l.entries.now
