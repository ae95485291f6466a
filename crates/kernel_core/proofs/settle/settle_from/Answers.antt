use Rattle.placed_laws.specs.Placed.{placed_blocker}
use Rattle.placed_laws.specs.PlacedSteps.{placed_step}
use Rattle.placed_laws.specs.PlacedEvents.{placed_settle, placed_settled}
use Rattle.std.proofs.Common.{sym, ◌∙◌}
use Rattle.running_kernel.specs.Views.{placed_of}
use Rattle.kernel_core.specs.EventParts.{settled_newest}
use Rattle.kernel_core.proofs.NewestLemmas.{newest_blocked, newest_goes}
use Rattle.kernel_core.proofs.StepLemmas.{blocker_told, no_blocker_told, some_is}
use Rattle.kernel_core.proofs.WentLemmas.{went_as, went_then}
use Rattle.kernel_core.proofs.settle.settle_from.Goals as goal

pub returns-then-is_some : goal.returns-then-is_some
returns-then-is_some g c =
    let m = g.C.Meaning.Rules.meaning in
    let a = c.args in
    let x = placed_of a.running.now in
    let b = some_is (placed_blocker m x a.p)
    (blocker_told c.blocker.result (placed_blocker m x a.p) c.blocker.ensures
    (sym c.is_some.ensures ∙ c.if-is_some.true)) in
    went_as m (settled_newest m a.p) (placed_settled m) a.running.now c.settle.new.running
    a.trace.now.notes c.settle.new.trace.notes (g.D.Disk.seen a.disk.now)
    (g.D.Disk.seen c.settle.new.disk) (newest_blocked m x a.p b.0 b.1) c.settle.ensures

pub returns : goal.returns
returns g c =
    let m = g.C.Meaning.Rules.meaning in
    let a = c.args in
    let x = placed_of a.running.now in
    let none = no_blocker_told c.blocker.result (placed_blocker m x a.p) c.blocker.ensures
    (sym c.is_some.ensures ∙ c.if-is_some.false) in
    let d = g.D.Disk.seen a.disk.now in
    let e = g.D.Disk.seen c.step.new.disk in
    let l = g.D.Disk.seen c.settle-2.new.disk in
    went_as m (settled_newest m a.p) (λ r. placed_settle m 255 (placed_step m a.p r)) a.running.now
    c.settle-2.new.running a.trace.now.notes c.settle-2.new.trace.notes d l (newest_goes m x a.p none)
    (went_then m (placed_step m a.p) (placed_settle m 255) a.running.now c.step.new.running
    c.settle-2.new.running a.trace.now.notes c.step.new.trace.notes c.settle-2.new.trace.notes d e l
    c.step.ensures c.settle-2.ensures)
