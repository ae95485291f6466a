use Rattle.std.proofs.Common.{length}
use Rattle.audit_state.proofs.Things.+victim_among.Given as goal

abbrev pub decreases-victim_among : goal.decreases-victim_among
decreases-victim_among l = length l.frames.now
