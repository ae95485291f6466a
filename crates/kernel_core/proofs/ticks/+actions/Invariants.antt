-- Each turn is one less.
use Rattle.kernel_core.proofs.ticks.+actions.Given as goal

abbrev pub decreases-actions : goal.decreases-actions
decreases-actions g l = l.turns
