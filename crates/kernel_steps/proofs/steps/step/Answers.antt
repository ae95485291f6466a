use Rattle.std.proofs.Common.{◌∙◌, ap}
use Rattle.placed_laws.specs.Placed.{Placed}
use Rattle.running_kernel.specs.Views.{placed_of, call_at}
use Rattle.placed_laws.proofs.Laws.{steps_stand, held_stays, sound_in_place}
use Rattle.kernel_steps.proofs.WholeLemmas.{call_is, did_requeued, did_step, running_after_step}
use Rattle.kernel_steps.proofs.WholeLemmas.{stood_after_step, stood_requeued, requeue_keeps}
use Rattle.placed_laws.specs.PlacedSteps.{placed_call_step}
use Rattle.kernel_steps.proofs.steps.step.Goals as goal

pub requeue-requires : goal.requeue-requires
requeue-requires g c =
    let a = c.args in
    let m = g.C.Meaning.Rules.meaning in
    let t = call_is (call_at a.running.now a.p) c.requires.call in
    record {
      process = c.requires.at.process;
      running =
          running_after_step m (sound_in_place m g.C.Meaning.Rules.laws)
          (steps_stand m g.C.Meaning.Rules.laws) (held_stays m g.C.Meaning.Rules.laws) a.running.now
          c.step_call.new.running a.p t.0 a.trace.now.notes c.step_call.new.trace.notes
          (g.D.Disk.seen a.disk.now) (g.D.Disk.seen c.step_call.new.disk)
          c.requires.at.running c.requires.at.process c.requires.at.abstraction t.1 c.requires.free c.step_call.ensures;
    }

pub returns : goal.returns
returns g c =
    let a = c.args in
    let m = g.C.Meaning.Rules.meaning in
    let x = placed_of a.running.now in
    let y = placed_of c.step_call.new.running in
    let z = placed_of c.requeue.new.running in
    let t = call_is (call_at a.running.now a.p) c.requires.call in
    record {
      refines =
          did_step m x z a.p a.trace.now.notes c.step_call.new.trace.notes
          (g.D.Disk.seen a.disk.now) (g.D.Disk.seen c.step_call.new.disk)
          (did_requeued (λ r. placed_call_step m a.p (x.call a.p) r) x y z a.p a.trace.now.notes
          c.step_call.new.trace.notes (g.D.Disk.seen a.disk.now) (g.D.Disk.seen
          c.step_call.new.disk) c.step_call.ensures.refines c.requeue.ensures.value);
      running = c.requeue.ensures.running;
      abstraction =
          stood_requeued m a.p (placed_of c.step_call.new.running) (placed_of c.requeue.new.running)
          c.requeue.ensures.value
          (stood_after_step m (steps_stand m g.C.Meaning.Rules.laws) a.running.now
          c.step_call.new.running a.p t.0 a.trace.now.notes c.step_call.new.trace.notes
          (g.D.Disk.seen a.disk.now) (g.D.Disk.seen c.step_call.new.disk)
          c.requires.at.abstraction t.1 c.requires.free c.step_call.ensures);
      world =
          ap (λ (z : Placed). z.world) (requeue_keeps a.p (placed_of c.step_call.new.running)
          (placed_of c.requeue.new.running) c.requeue.ensures.value)
          ∙ c.step_call.ensures.stepped.world;
      clock =
          ap (λ (z : Placed). z.clock) (requeue_keeps a.p (placed_of c.step_call.new.running)
          (placed_of c.requeue.new.running) c.requeue.ensures.value)
          ∙ c.step_call.ensures.stepped.clock;
    }
