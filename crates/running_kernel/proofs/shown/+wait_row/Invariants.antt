-- Each turn has one entry less.
use Rattle.std.proofs.Common.{length}
use Rattle.running_kernel.proofs.shown.+wait_row.Given as goal

abbrev pub decreases-wait_row : goal.decreases-wait_row
decreases-wait_row l = length l.entries.now
