-- Each turn is one less.
use Rattle.kernel_core.proofs.settle.+settle_alone.Given as goal

abbrev pub decreases-settle_alone : goal.decreases-settle_alone
decreases-settle_alone g l = l.turns
