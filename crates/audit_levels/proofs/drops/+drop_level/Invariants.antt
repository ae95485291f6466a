use Rattle.std.proofs.Common.{vec_len}
use Rattle.audit_levels.proofs.drops.+drop_level.Given as goal

abbrev pub decreases-drop_level : goal.decreases-drop_level
decreases-drop_level l = vec_len l.config.now.levels
