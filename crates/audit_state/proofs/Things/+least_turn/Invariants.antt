use Rattle.std.proofs.Common.{length}
use Rattle.audit_state.proofs.Things.+least_turn.Given as goal

abbrev pub decreases-least_turn : goal.decreases-least_turn
decreases-least_turn l = length l.rows.now
