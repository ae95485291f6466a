-- Without memory before the first line nothing has changed.
use Rattle.vino_top.proofs.DemoLemmas.{nothing_run}
use Rattle.vino_top.proofs.demo.demo.Goals as goal

pub returns-in_default : goal.returns-in_default
returns-in_default g c = nothing_run c.args.n (g.K.Sink.seen c.args.sink.now) (g.D.Disk.seen c.args.disk.now)

pub returns-in-Err : goal.returns-in-Err
returns-in-Err g c = nothing_run c.args.n (g.K.Sink.seen c.args.sink.now) (g.D.Disk.seen c.args.disk.now)
