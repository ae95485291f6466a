use Rattle.std.proofs.Common.{arith}
use Rattle.audit_state.specs.Rows.{exchanged}
use Rattle.audit_state.proofs.Stepping.{map_step}
use Rattle.audit_state.proofs.lists.exchange.Goals as goal

pub loop-h-preserved : goal.loop-h-preserved
loop-h-preserved c = map_step (exchanged c.args.f c.args.g) _ _ _ _ _ (omega arith) c.loop-h.invariant c.other.ensures
