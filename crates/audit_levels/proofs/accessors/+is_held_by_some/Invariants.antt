use Rattle.std.proofs.Common.{length}
use Rattle.audit_levels.proofs.accessors.+is_held_by_some.Given as goal

abbrev pub decreases-is_held_by_some : goal.decreases-is_held_by_some
decreases-is_held_by_some l = length l.levels.now
