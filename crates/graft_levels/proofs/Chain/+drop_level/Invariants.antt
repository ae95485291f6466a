-- Each level further inward is gone.
use Rattle.std.specs.Prelude.{length}
use Rattle.graft_levels.proofs.Chain.+drop_level.Given as goal

abbrev pub decreases-drop_level : goal.decreases-drop_level
decreases-drop_level g l = length l.self.now.levels
