-- Each turn is one less.
use Rattle.kernel_core.proofs.settle.+settle.Given as goal

abbrev pub decreases-settle : goal.decreases-settle
decreases-settle g l = l.turns
