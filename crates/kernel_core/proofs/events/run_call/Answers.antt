use Rattle.std.proofs.Common.{refl}
use Rattle.placed_laws.specs.PlacedEvents.{placed_last}
use Rattle.kernel_core.specs.EventParts.{settled_newest}
use Rattle.running_kernel.specs.Idle.{joined_in}
use Rattle.kernel_core.proofs.WentLemmas.{went_then}
use Rattle.kernel_core.proofs.events.run_call.Goals as goal

pub returns : goal.returns
returns g c =
    let m = g.C.Meaning.Rules.meaning in
    let a = c.args in
    let w = c.settle_begun.ensures in
    let d = g.D.Disk.seen a.disk.now in
    let e = g.D.Disk.seen c.settle_begun.new.disk in
    went_then m (settled_newest m a.p) (placed_last m a.p) (joined_in a.p a.running.now)
    c.settle_begun.new.running c.settle_begun.new.running a.trace.now.notes
    c.settle_begun.new.trace.notes c.say_last.new.notes d e e
    w (record {
      refines = c.say_last.ensures.said e;
      running = w.running;
      abstraction = w.abstraction;
      world = refl;
      clock = refl;
    })
