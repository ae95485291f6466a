use Rattle.std.proofs.Common.{◌∙◌, [], ap, sym, Some, None}
use Rattle.kernel_model.specs.World.{World}
use Rattle.kernel_model.specs.Events.{in_order}
use Rattle.placed_laws.specs.Placed.{has_some, placed_blocker}
use Rattle.placed_laws.specs.PlacedSteps.{placed_joins, placed_step}
use Rattle.placed_laws.specs.PlacedEvents.{placed_settled}
use Rattle.kernel_steps.specs.Composing.{did_then}
use Rattle.placed_laws.proofs.Laws.{same_shown, others_stand, steps_stand, resting}
use Rattle.kernel_core.specs.EventParts.{taken_up}
use Rattle.running_kernel.specs.Views.{placed_of}
use Rattle.kernel_core.proofs.RestLemmas.{did_to_rest, rested_joined, rested_stepped}
use Rattle.kernel_core.proofs.StepLemmas.{blocker_told, can_step, no_blocker_told, some_is, taken_by}
use Rattle.kernel_core.proofs.stepping.take_up_first.Goals as goal
use Rattle.kernel_steps.proofs.WholeLemmas.{call_is}
use Rattle.kernel_steps.proofs.WholeLemmas.{has_call}

pub returns-then-is_some-clause-went : goal.returns-then-is_some-clause-went
returns-then-is_some-clause-went g c =
    let m = g.C.Meaning.Rules.meaning in
    let a = c.args in
    let can = can_step (has_some ((placed_of a.running.now).levels a.p))
    (in_order a.p (placed_of a.running.now).order) c.requires.level c.requires.away in
    let b = some_is (placed_blocker m (placed_of a.running.now) a.p)
    (blocker_told c.blocker.result (placed_blocker m (placed_of a.running.now) a.p)
    c.blocker.ensures (sym c.is_some.ensures ∙ c.if-is_some.true)) in
    let j = (c.join.ensures.went a.trace.now.notes (g.D.Disk.seen a.disk.now)) in
    let w = c.settle_all.ensures in
    record {
      refines =
          did_to_rest m (taken_up m a.p) (λ r. placed_settled m (placed_joins a.p r))
          (placed_of a.running.now) (placed_of c.settle_all.new.running)
          a.trace.now.notes c.settle_all.new.trace.notes (g.D.Disk.seen a.disk.now)
          (g.D.Disk.seen c.settle_all.new.disk)
          (did_then (placed_joins a.p) (placed_settled m) (placed_of a.running.now)
          (placed_of c.join.new.running) (placed_of c.settle_all.new.running) a.trace.now.notes
          a.trace.now.notes c.settle_all.new.trace.notes (g.D.Disk.seen a.disk.now)
          (g.D.Disk.seen a.disk.now) (g.D.Disk.seen c.settle_all.new.disk) j.refines
          c.settle_all.ensures.refines)
          (λ blocks notes io s is. rested_joined m (placed_of a.running.now)
          (others_stand m g.C.Meaning.Rules.laws) (resting m g.C.Meaning.Rules.laws)
          a.p b.0 c.requires.level c.requires.away b.1
          (taken_by m (placed_of a.running.now) a.p (Some b.0) can b.1).1 blocks notes io s);
      on =
          record {
            running = w.running;
            abstraction = w.abstraction;
            world = w.world ∙ j.world;
            clock = w.clock ∙ j.clock;
          };
    }

pub returns-clause-went : goal.returns-clause-went
returns-clause-went g c =
    let m = g.C.Meaning.Rules.meaning in
    let a = c.args in
    let can = can_step (has_some ((placed_of a.running.now).levels a.p))
    (in_order a.p (placed_of a.running.now).order) c.requires.level c.requires.away in
    let none = no_blocker_told c.blocker.result (placed_blocker m (placed_of a.running.now) a.p)
    c.blocker.ensures (sym c.is_some.ensures ∙ c.if-is_some.false) in
    let call = call_is ((placed_of a.running.now).call a.p)
    (has_call m (same_shown m g.C.Meaning.Rules.laws) (placed_of a.running.now) a.p
    c.requires.at.abstraction c.requires.level) in
    let s = c.step.ensures in
    let w = c.settle_all-2.ensures in
    record {
      refines =
          did_to_rest m (taken_up m a.p) (λ r. placed_settled m (placed_step m a.p r))
          (placed_of a.running.now) (placed_of c.settle_all-2.new.running)
          a.trace.now.notes c.settle_all-2.new.trace.notes (g.D.Disk.seen a.disk.now)
          (g.D.Disk.seen c.settle_all-2.new.disk)
          (did_then (placed_step m a.p) (placed_settled m) (placed_of a.running.now)
          (placed_of c.step.new.running) (placed_of c.settle_all-2.new.running)
          a.trace.now.notes c.step.new.trace.notes c.settle_all-2.new.trace.notes
          (g.D.Disk.seen a.disk.now) (g.D.Disk.seen c.step.new.disk)
          (g.D.Disk.seen c.settle_all-2.new.disk) s.refines c.settle_all-2.ensures.refines)
          (λ blocks notes io s is. rested_stepped m (placed_of a.running.now) (steps_stand m
          g.C.Meaning.Rules.laws) (resting m g.C.Meaning.Rules.laws) a.p call.0 call.1 none
          (taken_by m (placed_of a.running.now) a.p None can none).1 blocks notes io s);
      on =
          record {
            running = w.running;
            abstraction = w.abstraction;
            world = w.world ∙ s.world;
            clock = w.clock ∙ s.clock;
          };
    }

pub settle_all-requires : goal.settle_all-requires
settle_all-requires g c =
    let j = c.join.ensures.went [] (g.D.Disk.seen c.args.disk.now) in
    record {
      running = j.running;
      abstraction = j.abstraction;
      disk = ap (λ (v : World). v.disk_size) j.world ∙ c.requires.at.disk;
    }
