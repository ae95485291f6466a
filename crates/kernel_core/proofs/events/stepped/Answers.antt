use Rattle.std.proofs.Common.{◌<◌, ◌∙◌, sym, refl, arith}
use Rattle.kernel_model.specs.declared.Event.TheVariants.{Step}
use Rattle.kernel_model.specs.declared.Note.TheVariants.{Refused}
use Rattle.kernel_model.specs.declared.Refusal.TheVariants.{NoProcess, BadIndex}
use Rattle.placed_laws.specs.PlacedEvents.{placed_event_on, placed_step_event}
use Rattle.running_kernel.specs.Views.{placed_of}
use Rattle.kernel_core.proofs.EventLemmas.{step_many, step_taken, step_unliving, step_zero, went_refused}
use Rattle.kernel_core.proofs.RestLemmas.{from_as, from_did}
use Rattle.kernel_core.proofs.events.stepped.Goals as goal

pub returns-then-not-living : goal.returns-then-not-living
returns-then-not-living g c =
    let m = g.C.Meaning.Rules.meaning in
    let a = c.args in
    record {
      refines =
          from_did m (placed_event_on m a.number (Step a.p a.n)) (placed_of a.running.now)
          (placed_of a.running.now) a.trace.now.notes c.push.new.self (g.D.Disk.seen a.disk.now)
          (g.D.Disk.seen a.disk.now)
          (went_refused m (placed_event_on m a.number (Step a.p a.n)) a.running.now
          (Refused a.number NoProcess) a.trace.now.notes c.push.new.self
          (g.D.Disk.seen a.disk.now) c.requires.running c.requires.abstraction
          (step_unliving m (placed_of a.running.now) a.number a.p a.n
          (sym c.living.ensures.value ∙ c.if-not-living.true)) c.push.ensures refl).refines;
      on = record { running = c.requires.running; abstraction = c.requires.abstraction; world = refl; clock = refl };
    }

pub returns-then-n-eq0 : goal.returns-then-n-eq0
returns-then-n-eq0 g c =
    let m = g.C.Meaning.Rules.meaning in
    let a = c.args in
    record {
      refines =
          from_did m (placed_event_on m a.number (Step a.p a.n)) (placed_of a.running.now)
          (placed_of a.running.now) a.trace.now.notes c.push-then-n-eq0.new.self
          (g.D.Disk.seen a.disk.now) (g.D.Disk.seen a.disk.now)
          (went_refused m (placed_event_on m a.number (Step a.p a.n)) a.running.now
          (Refused a.number BadIndex) a.trace.now.notes c.push-then-n-eq0.new.self
          (g.D.Disk.seen a.disk.now) c.requires.running c.requires.abstraction
          (step_zero m (placed_of a.running.now) a.number a.p a.n (sym c.living.ensures.value
          ∙ c.if-not-living.false) (c.if-n-eq0.true)) c.push-then-n-eq0.ensures refl).refines;
      on = record { running = c.requires.running; abstraction = c.requires.abstraction; world = refl; clock = refl };
    }

pub returns-then-n-gt-MOST_STEPS : goal.returns-then-n-gt-MOST_STEPS
returns-then-n-gt-MOST_STEPS g c =
    let m = g.C.Meaning.Rules.meaning in
    let a = c.args in
    record {
      refines =
          from_did m (placed_event_on m a.number (Step a.p a.n)) (placed_of a.running.now)
          (placed_of a.running.now) a.trace.now.notes c.push-then-n-gt-MOST_STEPS.new.self
          (g.D.Disk.seen a.disk.now) (g.D.Disk.seen a.disk.now)
          (went_refused m (placed_event_on m a.number (Step a.p a.n)) a.running.now
          (Refused a.number BadIndex) a.trace.now.notes c.push-then-n-gt-MOST_STEPS.new.self
          (g.D.Disk.seen a.disk.now) c.requires.running c.requires.abstraction
          (step_many m (placed_of a.running.now) a.number a.p a.n
          (sym c.living.ensures.value ∙ c.if-not-living.false) (c.if-n-gt-MOST_STEPS.true))
          c.push-then-n-gt-MOST_STEPS.ensures refl).refines;
      on = record { running = c.requires.running; abstraction = c.requires.abstraction; world = refl; clock = refl };
    }

pub returns : goal.returns
returns g c =
    let m = g.C.Meaning.Rules.meaning in
    let a = c.args in
    let some : 0 < a.n = omega (arith, c.if-n-eq0.false) in
    record {
      refines =
          from_as m (placed_event_on m a.number (Step a.p a.n))
          (placed_step_event m a.number a.p a.n) (placed_of a.running.now)
          (placed_of c.step_event.new.running) a.trace.now.notes c.step_event.new.trace.notes
          (g.D.Disk.seen a.disk.now) (g.D.Disk.seen c.step_event.new.disk)
          (step_taken m (placed_of a.running.now) a.number a.p a.n
          (sym c.living.ensures.value ∙ c.if-not-living.false) some c.if-n-gt-MOST_STEPS.false)
          c.step_event.ensures.refines;
      on = c.step_event.ensures.on;
    }
