use Rattle.std.proofs.Common.{◌∙◌, ap, sym}
use Rattle.kernel_model.specs.declared.Cause.TheVariants.{TimeOut}
use Rattle.placed_laws.specs.PlacedSteps.{placed_drop}
use Rattle.placed_laws.specs.PlacedEvents.{placed_drop_if, placed_holder}
use Rattle.running_kernel.specs.Orders.{blocker_of}
use Rattle.running_kernel.specs.Views.{placed_of, run_of}
use Rattle.kernel_core.proofs.WentLemmas.{went_as, went_nothing}
use Rattle.kernel_core.proofs.ticks.time_out_holder.Goals as goal

pub returns-in_default : goal.returns-in_default
returns-in_default g c =
    let m = g.C.Meaning.Rules.meaning in
    let a = c.args in
    went_as m (placed_holder m a.p (blocker_of a.found)) (λ r. r) a.running.now a.running.now
    a.trace.now.notes a.trace.now.notes (g.D.Disk.seen a.disk.now) (g.D.Disk.seen a.disk.now)
    (λ blocks notes io. ap (λ o. placed_drop_if m a.found.holder o
    (TimeOut a.found.object a.p) (run_of (placed_of a.running.now) blocks notes io))
    (sym c.level_in_the_way.ensures.value ∙ c.in_default.is))
    (went_nothing m a.running.now a.trace.now.notes (g.D.Disk.seen a.disk.now) c.requires.running
    c.requires.abstraction)

pub returns : goal.returns
returns g c =
    let m = g.C.Meaning.Rules.meaning in
    let a = c.args in
    went_as m (placed_holder m a.p (blocker_of a.found))
    (placed_drop m a.found.holder c.in-Some.level (TimeOut a.found.object a.p))
    a.running.now c.drop_level.new.running a.trace.now.notes c.drop_level.new.trace.notes
    (g.D.Disk.seen a.disk.now) (g.D.Disk.seen c.drop_level.new.disk)
    (λ blocks notes io. ap (λ o. placed_drop_if m a.found.holder o
    (TimeOut a.found.object a.p) (run_of (placed_of a.running.now) blocks notes io))
    (sym c.level_in_the_way.ensures.value ∙ c.in-Some.is))
    c.drop_level.ensures
