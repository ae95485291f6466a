use Rattle.std.proofs.Common.{length}
use Rattle.audit_replay.proofs.effects.+outermost_in.Given as goal

abbrev pub decreases-outermost_in : goal.decreases-outermost_in
decreases-outermost_in l = length l.levels.now
