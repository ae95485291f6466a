use Rattle.std.proofs.Common.{refl}
use Rattle.placed_laws.specs.PlacedEvents.{placed_last, placed_step_event}
use Rattle.kernel_core.specs.EventParts.{steps_said}
use Rattle.running_kernel.specs.Views.{placed_of}
use Rattle.kernel_core.proofs.RestLemmas.{from_as, from_then}
use Rattle.kernel_core.proofs.stepping.step_event.Goals as goal

pub returns : goal.returns
returns g c =
    let m = g.C.Meaning.Rules.meaning in
    let a = c.args in
    record {
      refines =
          from_as m (placed_step_event m a.number a.p a.n)
          (λ r. placed_last m a.p (steps_said m a.number a.p a.n 0 r)) (placed_of a.running.now)
          (placed_of c.steps.new.running) a.trace.now.notes c.say_last.new.notes
          (g.D.Disk.seen a.disk.now) (g.D.Disk.seen c.steps.new.disk) (λ blocks notes io. refl)
          (from_then m (steps_said m a.number a.p a.n 0) (placed_last m a.p)
          (placed_of a.running.now) (placed_of c.steps.new.running)
          (placed_of c.steps.new.running) a.trace.now.notes c.steps.new.trace.notes
          c.say_last.new.notes (g.D.Disk.seen a.disk.now) (g.D.Disk.seen c.steps.new.disk)
          (g.D.Disk.seen c.steps.new.disk) c.steps.ensures.refines
          (c.say_last.ensures.said (g.D.Disk.seen c.steps.new.disk)));
      on = c.steps.ensures.on;
    }
