use Rattle.std.proofs.Common.{arith}
use Rattle.buffer_cache.specs.Frames.{exchanged}
use Rattle.buffer_cache.proofs.Orders.{map_step}
use Rattle.buffer_cache.proofs.frames.exchange_all.Goals as goal

pub loop-h-preserved : goal.loop-h-preserved
loop-h-preserved c = map_step (exchanged c.args.f c.args.g) _ _ _ _ _ (omega arith) c.loop-h.invariant c.other.ensures
