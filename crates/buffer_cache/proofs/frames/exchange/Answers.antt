use Rattle.std.proofs.Common.{sym}
use Rattle.buffer_cache.proofs.Orders.{exchanged-same}
use Rattle.buffer_cache.proofs.frames.exchange.Goals as goal

pub returns-then-f-g : goal.returns-then-f-g
returns-then-f-g c = sym (exchanged-same c.args.f c.args.g c.args.order.now.items c.if-f-g.true)
