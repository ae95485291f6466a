use Rattle.std.proofs.Common.{◌≡◌, ◌<◌, ◌≤◌, ◌∙◌, suc, ◌+◌, ◌-◌, true, false, ap, sym, subst, refl, arith, ◌&&◌, nat_lt}
use Rattle.kernel_model.specs.World.{World}
use Rattle.kernel_model.specs.declared.Note.TheVariants.{Ran}
use Rattle.placed_laws.specs.PlacedSteps.{placed_noted}
use Rattle.kernel_steps.specs.Composing.{did_as}
use Rattle.kernel_steps.specs.Moments.{kernel_moment}
use Rattle.kernel_core.specs.EventParts.{steps_left, steps_said, taken_up, HasReached}
use Rattle.running_kernel.specs.Views.{placed_of, run_of}
use Rattle.kernel_core.proofs.LastLemmas.{did_note}
use Rattle.kernel_core.proofs.StepLemmas.{all_taken, come_first, come_last, come_on}
use Rattle.kernel_core.proofs.StepLemmas.{come_stretched, not_going, one_less, steps_again}
use Rattle.kernel_core.proofs.StepLemmas.{steps_next, steps_over, still_few}
use Rattle.kernel_core.proofs.stepping.steps.Goals as goal

pub loop-going-init : goal.loop-going-init
loop-going-init g c =
    let m = g.C.Meaning.Rules.meaning in
    let a = c.args in
    let all : a.n ≡ a.n - 0 = omega arith in
    record {
      come =
          subst
          (λ k. HasReached m (steps_said m a.number a.p a.n 0) (steps_left m a.number a.p k 0 true)
          (kernel_moment (placed_of a.running.now) a.trace.now.notes (g.D.Disk.seen a.disk.now))
          (kernel_moment (placed_of a.running.now) a.trace.now.notes (g.D.Disk.seen a.disk.now)))
          all (come_first m (steps_said m a.number a.p a.n 0) (placed_of a.running.now)
          a.trace.now.notes (g.D.Disk.seen a.disk.now));
      running = c.requires.at.running;
      abstraction = c.requires.at.abstraction;
      world = refl;
      clock = refl;
      disk = c.requires.at.disk;
      few = omega arith;
    }

pub stretch-taken-requires : goal.stretch-taken-requires
stretch-taken-requires g c =
    let i = c.loop-going.invariant in
    record { process = c.requires.at.process; running = i.running; abstraction = i.abstraction }

pub take_up-going-requires : goal.take_up-going-requires
take_up-going-requires g c =
    let i = c.loop-going.invariant in
    let on = c.stretch-taken.ensures.on in
    record {
      process = c.requires.at.process;
      running = on.running;
      abstraction = on.abstraction;
      disk = ap (λ (v : World). v.disk_size) on.world ∙ i.disk;
    }

pub loop-going-preserved-then-taken-n-2 : goal.loop-going-preserved-then-taken-n-2
loop-going-preserved-then-taken-n-2 g c =
    let m = g.C.Meaning.Rules.meaning in
    let a = c.args in
    let l = c.loop-going in
    let i = l.invariant in
    let s = c.stretch-taken in
    let on = s.ensures.on in
    let next = l.taken + s.result in
    record {
      come =
          subst (λ b. HasReached m (steps_said m a.number a.p a.n 0)
          (steps_left m a.number a.p (a.n - next) next b)
          (kernel_moment (placed_of a.running.now) a.trace.now.notes (g.D.Disk.seen a.disk.now))
          (kernel_moment (placed_of s.new.running) l.trace.notes (g.D.Disk.seen l.disk)))
          (sym c.loop-going-test.true)
          (come_stretched m a.number a.p a.n s.result l.taken l.going (steps_said m a.number a.p
          a.n 0) (placed_of a.running.now) (placed_of l.running) (placed_of s.new.running)
          a.trace.now.notes l.trace.notes (g.D.Disk.seen a.disk.now) (g.D.Disk.seen l.disk)
          c.loop-going-test.true c.if-taken-n.true s.ensures.most i.come s.ensures.leads);
      running = on.running;
      abstraction = on.abstraction;
      world = on.world ∙ i.world;
      clock = on.clock ∙ i.clock;
      disk = ap (λ (v : World). v.disk_size) on.world ∙ i.disk;
      few = omega (arith, c.if-taken-n.true, s.ensures.most);
    }

pub loop-going-preserved : goal.loop-going-preserved
loop-going-preserved g c =
    let m = g.C.Meaning.Rules.meaning in
    let a = c.args in
    let l = c.loop-going in
    let i = l.invariant in
    let s = c.stretch-taken in
    let t = c.take_up-going in
    let on = t.ensures.went.on in
    let taken = l.taken + s.result in
    let next = c.more-taken.result in
    let k = a.n - taken - 1 in
    let few : taken ≤ a.n = omega (arith, c.if-taken-n.true, s.ensures.most) in
    let less : taken < a.n = omega (arith, few, c.if-taken-n-2.false) in
    let left : a.n - taken ≡ suc k = omega (arith, less) in
    record {
      come =
          come_on m (steps_said m a.number a.p a.n 0) (steps_left m a.number a.p (a.n - taken) taken
          true) (steps_left m a.number a.p (a.n - next) next t.result) (taken_up m a.p)
          (placed_of a.running.now) (placed_of s.new.running) (placed_of t.new.running)
          a.trace.now.notes l.trace.notes t.new.trace.notes (g.D.Disk.seen a.disk.now)
          (g.D.Disk.seen l.disk) (g.D.Disk.seen c.take_up-going.new.disk)
          (come_stretched m a.number a.p a.n s.result l.taken l.going (steps_said m a.number a.p
          a.n 0) (placed_of a.running.now) (placed_of l.running) (placed_of s.new.running)
          a.trace.now.notes l.trace.notes (g.D.Disk.seen a.disk.now) (g.D.Disk.seen l.disk)
          c.loop-going-test.true c.if-taken-n.true s.ensures.most i.come s.ensures.leads)
          t.ensures.went.refines
          (λ blocks notes io. steps_next m (placed_of s.new.running) a.p a.number (a.n - taken) k
          taken next t.result left t.ensures.took c.more-taken.ensures blocks notes io
          ∙ steps_again m a.number a.p k (a.n - next) next t.result
          (taken_up m a.p (run_of (placed_of s.new.running) blocks notes io))
          (one_less a.n taken next t.result c.more-taken.ensures));
      running = on.running;
      abstraction = on.abstraction;
      world = on.world ∙ s.ensures.on.world ∙ i.world;
      clock = on.clock ∙ s.ensures.on.clock ∙ i.clock;
      disk =
          ap (λ (v : World). v.disk_size) (on.world ∙ s.ensures.on.world) ∙ i.disk
          ∙ sym t.ensures.went.refines.refines.made.size;
      few = still_few a.n taken next t.result less c.more-taken.ensures;
    }

pub returns : goal.returns
returns g c =
    let m = g.C.Meaning.Rules.meaning in
    let a = c.args in
    let l = c.loop-going in
    let i = l.invariant in
    let over : (l.going && nat_lt 0 (a.n - l.taken)) ≡ false = elim c.loop-going-test.branch [
      | goal.then-loop-going-test+else-taken-n w ↦ all_taken a.n l.taken l.going w.if-taken-n.false
      | goal.else-loop-going-test w ↦ not_going a.n l.taken l.going w.loop-going-test.false
    ] in
    record {
      refines =
          come_last m (steps_said m a.number a.p a.n 0) (steps_left m a.number a.p
          (a.n - l.taken) l.taken l.going) (placed_of a.running.now) (placed_of l.running)
          (placed_of l.running) a.trace.now.notes l.trace.notes c.push.new.self
          (g.D.Disk.seen a.disk.now) (g.D.Disk.seen l.disk) (g.D.Disk.seen l.disk) i.come
          (did_as (steps_left m a.number a.p (a.n - l.taken) l.taken l.going)
          (placed_noted (Ran a.number l.taken)) (placed_of l.running) (placed_of l.running)
          l.trace.notes c.push.new.self (g.D.Disk.seen l.disk) (g.D.Disk.seen l.disk)
          (λ blocks notes io. steps_over m a.number a.p (a.n - l.taken) l.taken
          l.going (run_of (placed_of l.running) blocks notes io) over)
          (did_note (placed_of l.running) (Ran a.number l.taken) l.trace.notes c.push.new.self
          (g.D.Disk.seen l.disk) c.push.ensures refl));
      on = record { running = i.running; abstraction = i.abstraction; world = i.world; clock = i.clock };
    }
