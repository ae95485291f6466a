use Rattle.placed_laws.specs.PlacedEvents.{placed_settle}
use Rattle.running_kernel.specs.declared.running.Running.{Running}
use Rattle.running_kernel.specs.Idle.{joined_in}
use Rattle.kernel_steps.proofs.OnceLemmas.{room_before}
use Rattle.kernel_core.proofs.AloneLemmas.{now_joined, sound_joined}
use Rattle.kernel_core.proofs.SettleLemmas.{went_from}
use Rattle.kernel_core.proofs.settle.settle_joined.Goals as goal

pub push-requires : goal.push-requires
push-requires g c = room_before c.args.p c.args.running.now.order c.requires.running.order c.requires.running.once

pub settle-requires : goal.settle-requires
settle-requires g c =
    let x = c.args.running.now in
    let y : Running g.row.C.Denot g.row.B.Denot g.row.C-Meaning.Denot _ = record x { order = c.push.new.self } in
    sound_joined g.C.Meaning.Rules.meaning x y (g.D.Disk.seen c.args.disk.now) c.args.p (now_joined
    x c.args.p c.joined.result c.push.new.self c.joined.ensures c.push.ensures) c.requires

pub returns : goal.returns
returns g c =
    let m = g.C.Meaning.Rules.meaning in
    let a = c.args in
    let x = a.running.now in
    let y : Running g.row.C.Denot g.row.B.Denot g.row.C-Meaning.Denot _ = record x { order = c.push.new.self } in
    went_from m (placed_settle m a.turns) (joined_in a.p x) y c.settle.new.running a.trace.now.notes
    c.settle.new.trace.notes (g.D.Disk.seen a.disk.now) (g.D.Disk.seen c.settle.new.disk)
    (now_joined x a.p c.joined.result c.push.new.self c.joined.ensures c.push.ensures) c.settle.ensures
