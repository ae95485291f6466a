use Rattle.std.proofs.Common.{◌∙◌, ap, sym, refl, Some, None}
use Rattle.kernel_model.specs.World.{World}
use Rattle.kernel_model.specs.Events.{in_order}
use Rattle.placed_laws.specs.Placed.{has_some, placed_blocker}
use Rattle.placed_laws.specs.PlacedSteps.{placed_joins, placed_step}
use Rattle.placed_laws.specs.PlacedEvents.{placed_settled}
use Rattle.kernel_steps.specs.Composing.{did_nothing, did_then}
use Rattle.placed_laws.proofs.Laws.{same_shown, others_stand, steps_stand, resting}
use Rattle.kernel_core.specs.EventParts.{taken_up}
use Rattle.running_kernel.specs.Views.{placed_of}
use Rattle.kernel_core.proofs.RestLemmas.{did_to_rest, rested_joined, rested_same, rested_stepped, rested_still}
use Rattle.kernel_core.proofs.StepLemmas.{blocker_told, can_step, no_blocker_told, not_first}
use Rattle.kernel_core.proofs.StepLemmas.{not_second, some_is, taken_by, taken_none}
use Rattle.kernel_core.proofs.stepping.take_up.Goals as goal
use Rattle.kernel_steps.proofs.WholeLemmas.{call_is}
use Rattle.kernel_steps.proofs.WholeLemmas.{has_call}

pub returns-then-not-in_graft-clause-went : goal.returns-then-not-in_graft-clause-went
returns-then-not-in_graft-clause-went g c =
    let m = g.C.Meaning.Rules.meaning in
    let a = c.args in
    record {
      refines =
          did_to_rest m (taken_up m a.p) (λ r. r) (placed_of a.running.now)
          (placed_of a.running.now) a.trace.now.notes a.trace.now.notes
          (g.D.Disk.seen a.disk.now) (g.D.Disk.seen a.disk.now)
          (did_nothing (placed_of a.running.now) a.trace.now.notes (g.D.Disk.seen a.disk.now))
          (λ blocks notes io s is. rested_same m (placed_of a.running.now) (taken_up m a.p)
          (taken_none m (placed_of a.running.now) a.p (not_first (has_some
          ((placed_of a.running.now).levels a.p)) (in_order a.p (placed_of a.running.now).order)
          (sym c.in_graft.ensures ∙ c.if-not-in_graft.true))).1 blocks notes io s);
      on = record { running = c.requires.running; abstraction = c.requires.abstraction; world = refl; clock = refl };
    }

pub returns-then-waits-clause-went : goal.returns-then-waits-clause-went
returns-then-waits-clause-went g c =
    let m = g.C.Meaning.Rules.meaning in
    let a = c.args in
    record {
      refines =
          did_to_rest m (taken_up m a.p) (λ r. r) (placed_of a.running.now)
          (placed_of a.running.now) a.trace.now.notes a.trace.now.notes
          (g.D.Disk.seen a.disk.now) (g.D.Disk.seen a.disk.now)
          (did_nothing (placed_of a.running.now) a.trace.now.notes (g.D.Disk.seen a.disk.now))
          (λ blocks notes io s is. rested_same m (placed_of a.running.now) (taken_up m a.p)
          (taken_none m (placed_of a.running.now) a.p (not_second (has_some
          ((placed_of a.running.now).levels a.p)) (in_order a.p (placed_of a.running.now).order)
          (sym c.waits.ensures ∙ c.if-waits.true))).1 blocks notes io s);
      on = record { running = c.requires.running; abstraction = c.requires.abstraction; world = refl; clock = refl };
    }

pub settle_all-requires : goal.settle_all-requires
settle_all-requires g c =
    let j = c.join.ensures.went c.args.trace.now.notes (g.D.Disk.seen c.args.disk.now) in
    record {
      running = j.running;
      abstraction = j.abstraction;
      disk = ap (λ (v : World). v.disk_size) j.world ∙ c.requires.disk;
    }

pub returns-then-is_some-clause-went : goal.returns-then-is_some-clause-went
returns-then-is_some-clause-went g c =
    let m = g.C.Meaning.Rules.meaning in
    let a = c.args in
    let can = can_step (has_some ((placed_of a.running.now).levels a.p))
    (in_order a.p (placed_of a.running.now).order) (sym c.in_graft.ensures
    ∙ c.if-not-in_graft.false) (sym c.waits.ensures ∙ c.if-waits.false) in
    let b = some_is (placed_blocker m (placed_of a.running.now) a.p)
    (blocker_told c.blocked_by.result (placed_blocker m (placed_of a.running.now) a.p)
    c.blocked_by.ensures (sym c.is_some.ensures ∙ c.if-is_some.true)) in
    let j = (c.join.ensures.went a.trace.now.notes (g.D.Disk.seen a.disk.now)) in
    let w = c.settle_all.ensures in
    record {
      refines =
          did_to_rest m (taken_up m a.p) (λ r. placed_settled m (placed_joins a.p r))
          (placed_of a.running.now) (placed_of c.settle_all.new.running)
          a.trace.now.notes c.settle_all.new.trace.notes (g.D.Disk.seen a.disk.now)
          (g.D.Disk.seen c.settle_all.new.disk)
          (did_then (placed_joins a.p) (placed_settled m) (placed_of a.running.now)
          (placed_of c.join.new.running) (placed_of c.settle_all.new.running) a.trace.now.notes
          a.trace.now.notes c.settle_all.new.trace.notes (g.D.Disk.seen a.disk.now)
          (g.D.Disk.seen a.disk.now) (g.D.Disk.seen c.settle_all.new.disk) (c.join.ensures.went
          a.trace.now.notes (g.D.Disk.seen a.disk.now)).refines c.settle_all.ensures.refines)
          (λ blocks notes io s is. rested_joined m (placed_of a.running.now)
          (others_stand m g.C.Meaning.Rules.laws) (resting m g.C.Meaning.Rules.laws)
          a.p b.0 (sym c.in_graft.ensures ∙ c.if-not-in_graft.false)
          (sym c.waits.ensures ∙ c.if-waits.false) b.1
          (taken_by m (placed_of a.running.now) a.p (Some b.0) can b.1).1 blocks notes io s);
      on =
          record {
            running = w.running;
            abstraction = w.abstraction;
            world = w.world ∙ j.world;
            clock = w.clock ∙ j.clock;
          };
    }

pub returns-then-step_in_graft-clause-went : goal.returns-then-step_in_graft-clause-went
returns-then-step_in_graft-clause-went g c =
    let m = g.C.Meaning.Rules.meaning in
    let a = c.args in
    let can = can_step (has_some ((placed_of a.running.now).levels a.p))
    (in_order a.p (placed_of a.running.now).order) (sym c.in_graft.ensures
    ∙ c.if-not-in_graft.false) (sym c.waits.ensures ∙ c.if-waits.false) in
    let none = no_blocker_told c.blocked_by.result (placed_blocker m (placed_of a.running.now) a.p)
    c.blocked_by.ensures (sym c.is_some.ensures ∙ c.if-is_some.false) in
    let call = call_is ((placed_of a.running.now).call a.p)
    (has_call m (same_shown m g.C.Meaning.Rules.laws) (placed_of a.running.now) a.p
    c.requires.abstraction (sym c.in_graft.ensures ∙ c.if-not-in_graft.false)) in
    let s = c.step_in_graft.ensures.went in
    record {
      refines =
          did_to_rest m (taken_up m a.p) (placed_step m a.p) (placed_of a.running.now)
          (placed_of c.step_in_graft.new.running) a.trace.now.notes c.step_in_graft.new.trace.notes
          (g.D.Disk.seen a.disk.now) (g.D.Disk.seen c.step_in_graft.new.disk)
          c.step_in_graft.ensures.went.refines
          (rested_still m (placed_of a.running.now) (steps_stand m g.C.Meaning.Rules.laws)
          (resting m g.C.Meaning.Rules.laws) a.p call.0 (placed_of c.step_in_graft.new.running)
          call.1 none (sym c.in_graft.ensures ∙ c.if-not-in_graft.false) (sym c.waits.ensures
          ∙ c.if-waits.false) (c.step_in_graft.ensures.kept c.if-step_in_graft.true)
          (taken_by m (placed_of a.running.now) a.p None can none).1);
      on = record { running = s.running; abstraction = s.abstraction; world = s.world; clock = s.clock };
    }

pub returns-clause-went : goal.returns-clause-went
returns-clause-went g c =
    let m = g.C.Meaning.Rules.meaning in
    let a = c.args in
    let can = can_step (has_some ((placed_of a.running.now).levels a.p))
    (in_order a.p (placed_of a.running.now).order) (sym c.in_graft.ensures
    ∙ c.if-not-in_graft.false) (sym c.waits.ensures ∙ c.if-waits.false) in
    let none = no_blocker_told c.blocked_by.result (placed_blocker m (placed_of a.running.now) a.p)
    c.blocked_by.ensures (sym c.is_some.ensures ∙ c.if-is_some.false) in
    let call = call_is ((placed_of a.running.now).call a.p)
    (has_call m (same_shown m g.C.Meaning.Rules.laws) (placed_of a.running.now) a.p
    c.requires.abstraction (sym c.in_graft.ensures ∙ c.if-not-in_graft.false)) in
    let s = c.step_in_graft.ensures.went in
    let w = c.settle_all-2.ensures in
    record {
      refines =
          did_to_rest m (taken_up m a.p) (λ r. placed_settled m (placed_step m a.p r))
          (placed_of a.running.now) (placed_of c.settle_all-2.new.running)
          a.trace.now.notes c.settle_all-2.new.trace.notes (g.D.Disk.seen a.disk.now)
          (g.D.Disk.seen c.settle_all-2.new.disk)
          (did_then (placed_step m a.p) (placed_settled m) (placed_of a.running.now)
          (placed_of c.step_in_graft.new.running) (placed_of c.settle_all-2.new.running)
          a.trace.now.notes c.step_in_graft.new.trace.notes c.settle_all-2.new.trace.notes
          (g.D.Disk.seen a.disk.now) (g.D.Disk.seen c.step_in_graft.new.disk)
          (g.D.Disk.seen c.settle_all-2.new.disk) c.step_in_graft.ensures.went.refines
          c.settle_all-2.ensures.refines)
          (λ blocks notes io s is. rested_stepped m (placed_of a.running.now) (steps_stand m
          g.C.Meaning.Rules.laws) (resting m g.C.Meaning.Rules.laws) a.p call.0 call.1 none
          (taken_by m (placed_of a.running.now) a.p None can none).1 blocks notes io s);
      on =
          record {
            running = w.running;
            abstraction = w.abstraction;
            world = w.world ∙ s.world;
            clock = w.clock ∙ s.clock;
          };
    }

pub instruction_needs-needs-requires-clause-call : goal.instruction_needs-needs-requires-clause-call
instruction_needs-needs-requires-clause-call g c =
    let m = g.C.Meaning.Rules.meaning in
    has_call m (same_shown m g.C.Meaning.Rules.laws) (placed_of c.args.running.now) c.args.p
    c.requires.abstraction (sym c.in_graft.ensures ∙ c.if-not-in_graft.false)
