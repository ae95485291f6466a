use Rattle.std.proofs.Common.{length}
use Rattle.audit_replay.proofs.fallen.+effects_since.Given as goal

abbrev pub decreases-effects_since : goal.decreases-effects_since
decreases-effects_since l = length l.pasts.now
