use Rattle.placed_laws.specs.PlacedEvents.{placed_settle}
use Rattle.kernel_core.specs.EventParts.{settled_newest}
use Rattle.running_kernel.specs.Idle.{joined_in}
use Rattle.kernel_core.proofs.NewestLemmas.{newest_alone}
use Rattle.kernel_core.proofs.WentLemmas.{went_as}
use Rattle.kernel_core.proofs.settle.settle_begun.Goals as goal

pub returns-then-is_idle : goal.returns-then-is_idle
returns-then-is_idle g c =
    let m = g.C.Meaning.Rules.meaning in
    let a = c.args in
    went_as m (settled_newest m a.p) (placed_settle m 256) (joined_in a.p a.running.now)
    c.settle_alone.new.running a.trace.now.notes c.settle_alone.new.trace.notes
    (g.D.Disk.seen a.disk.now) (g.D.Disk.seen c.settle_alone.new.disk)
    (newest_alone m a.running.now a.p (c.is_idle.ensures c.if-is_idle.true).order) c.settle_alone.ensures
