use Rattle.placed_laws.proofs.Laws.{same_shown}
use Rattle.kernel_core.specs.EventParts.{settled_newest}
use Rattle.running_kernel.specs.declared.running.Running.{Running}
use Rattle.running_kernel.specs.Idle.{joined_in}
use Rattle.kernel_steps.proofs.OnceLemmas.{room_before}
use Rattle.kernel_core.proofs.AloneLemmas.{can_joined, joined_called, now_joined}
use Rattle.kernel_core.proofs.SettleLemmas.{went_from}
use Rattle.kernel_core.proofs.settle.settle_newest.Goals as goal

pub push-requires : goal.push-requires
push-requires g c = room_before c.args.p c.args.running.now.order c.requires.running.order c.requires.running.once

pub settle_from-requires-clause-at : goal.settle_from-requires-clause-at
settle_from-requires-clause-at g c =
    let x = c.args.running.now in
    let y : Running g.row.C.Denot g.row.B.Denot g.row.C-Meaning.Denot _ = record x { order = c.push.new.self } in
    can_joined g.C.Meaning.Rules.meaning x y (g.D.Disk.seen c.args.disk.now) c.args.p (now_joined
    x c.args.p c.joined.result c.push.new.self c.joined.ensures c.push.ensures) c.requires

pub settle_from-requires-clause-call : goal.settle_from-requires-clause-call
settle_from-requires-clause-call g c =
    let m = g.C.Meaning.Rules.meaning in
    let x = c.args.running.now in
    joined_called m (same_shown m g.C.Meaning.Rules.laws) x c.args.p c.requires.abstraction

pub returns : goal.returns
returns g c =
    let m = g.C.Meaning.Rules.meaning in
    let a = c.args in
    let x = a.running.now in
    let y : Running g.row.C.Denot g.row.B.Denot g.row.C-Meaning.Denot _ = record x { order = c.push.new.self } in
    went_from m (settled_newest m a.p) (joined_in a.p x) y c.settle_from.new.running a.trace.now.notes
    c.settle_from.new.trace.notes (g.D.Disk.seen a.disk.now) (g.D.Disk.seen c.settle_from.new.disk)
    (now_joined x a.p c.joined.result c.push.new.self c.joined.ensures c.push.ensures) c.settle_from.ensures
