use Rattle.std.proofs.Common.{◌≡◌, ◌∙◌, ◌-◌, suc, length, None, sym, arith}
use Rattle.kernel_model.specs.declared.Cause.TheVariants.{TimeOut}
use Rattle.kernel_model.specs.declared.Note.TheVariants.{Refused}
use Rattle.kernel_model.specs.declared.Refusal.TheVariants.{TimedOut}
use Rattle.placed_laws.specs.PlacedSteps.{placed_drop, placed_noted, placed_requeue, with_placed_call}
use Rattle.placed_laws.specs.PlacedEvents.{placed_waiter}
use Rattle.running_kernel.specs.Orders.{blocker_of}
use Rattle.running_kernel.specs.Views.{placed_of}
use Rattle.kernel_core.proofs.TickLemmas.{waiter_drops, waiter_ends, waiter_none}
use Rattle.kernel_core.proofs.WentLemmas.{went_as, went_nothing}
use Rattle.kernel_core.proofs.ticks.time_out_waiter.Goals as goal
use Rattle.running_kernel.proofs.PlainLemmas.{no_level}

pub returns-in_default : goal.returns-in_default
returns-in_default g c =
    let m = g.C.Meaning.Rules.meaning in
    let a = c.args in
    went_as m (λ r. placed_waiter m a.p (blocker_of a.found) (r.placed.call a.p) r)
    (λ r. r) a.running.now a.running.now a.trace.now.notes a.trace.now.notes
    (g.D.Disk.seen a.disk.now) (g.D.Disk.seen a.disk.now)
    (waiter_none m (placed_of a.running.now) a.p (blocker_of a.found)
    (sym c.in_default.is ∙ c.call_number.ensures)) (went_nothing m a.running.now
    a.trace.now.notes (g.D.Disk.seen a.disk.now) c.requires.running c.requires.abstraction)

pub refuse-requires-clause-none : goal.refuse-requires-clause-none
refuse-requires-clause-none g c =
    let a = c.args in
    no_level ((placed_of a.running.now).levels a.p)
    (sym c.level_count-count.ensures.value ∙ c.if-count-eq0.true)

pub returns-then-count-eq0 : goal.returns-then-count-eq0
returns-then-count-eq0 g c =
    let m = g.C.Meaning.Rules.meaning in
    let a = c.args in
    went_as m (λ r. placed_waiter m a.p (blocker_of a.found) (r.placed.call a.p) r)
    (λ r. placed_requeue a.p (placed_noted (Refused c.in-Some.number (TimedOut a.found.object
    a.found.holder)) (with_placed_call a.p None r))) a.running.now c.refuse.new.running
    a.trace.now.notes c.refuse.new.notes (g.D.Disk.seen a.disk.now) (g.D.Disk.seen a.disk.now)
    (waiter_ends m (placed_of a.running.now) a.p c.in-Some.number (blocker_of a.found)
    (sym c.in-Some.is ∙ c.call_number.ensures) (no_level ((placed_of a.running.now).levels a.p)
    (sym c.level_count-count.ensures.value ∙ c.if-count-eq0.true)))
    (c.refuse.ensures.went (g.D.Disk.seen a.disk.now))

pub returns : goal.returns
returns g c =
    let m = g.C.Meaning.Rules.meaning in
    let a = c.args in
    let k = c.level_count-count.result - 1 in
    let many : length ((placed_of a.running.now).levels a.p) ≡ suc k = let e =
    c.level_count-count.ensures.value in
    omega (arith, e, c.if-count-eq0.false) in
    went_as m (λ r. placed_waiter m a.p (blocker_of a.found) (r.placed.call a.p) r)
    (placed_drop m a.p k (TimeOut a.found.object a.found.holder)) a.running.now
    c.drop_level.new.running a.trace.now.notes c.drop_level.new.trace.notes
    (g.D.Disk.seen a.disk.now) (g.D.Disk.seen c.drop_level.new.disk)
    (waiter_drops m (placed_of a.running.now) a.p c.in-Some.number k (blocker_of a.found)
    (sym c.in-Some.is ∙ c.call_number.ensures) many) c.drop_level.ensures
