use Rattle.std.proofs.Common.{◌≡◌, ◌-◌, suc, ap, length, arith}
use Rattle.placed_laws.specs.PlacedSteps.{placed_step}
use Rattle.placed_laws.specs.PlacedEvents.{placed_settle}
use Rattle.placed_laws.proofs.Laws.{sound_in_place}
use Rattle.running_kernel.specs.Idle.{joined_in}
use Rattle.running_kernel.specs.Views.{placed_of}
use Rattle.running_kernel.proofs.PlainLemmas.{plain_unblocked}
use Rattle.kernel_core.proofs.AloneLemmas.{first_alone, went_empty}
use Rattle.kernel_core.proofs.SettleLemmas.{settle_free}
use Rattle.kernel_core.proofs.WentLemmas.{went_as, went_then}
use Rattle.kernel_core.proofs.settle.+settle_alone.Goals as goal

pub returns-then-piece_alone : goal.returns-then-piece_alone
returns-then-piece_alone g κ c =
    let a = c.args in
    let m = g.C.Meaning.Rules.meaning in
    let at = c.requires.at in
    let plain = c.is_plain.ensures c.if-not-is_plain.false in
    let x = joined_in a.p a.running.now in
    let d = g.D.Disk.seen a.disk.now in
    let e = g.D.Disk.seen c.piece_alone.new.disk in
    let turns : a.turns ≡ suc (a.turns - 1) = omega (arith, c.if-turns-eq0.false) in
    let free = plain_unblocked m (sound_in_place m g.C.Meaning.Rules.laws) g.C.Meaning.Rules.laws
    x a.p plain.flight at.running at.abstraction c.requires.idle.held plain.stands plain.user
    (ap length plain.none) in
    went_as m (placed_settle m a.turns) (λ r. placed_settle m (a.turns - 1) (placed_step m a.p r))
    x c.settle_alone.new.running a.trace.now.notes c.settle_alone.new.trace.notes d
    (g.D.Disk.seen c.settle_alone.new.disk)
    (settle_free m a.turns (a.turns - 1) (placed_of x) a.p turns
    (first_alone m a.running.now a.p c.requires.idle.order free))
    (went_then m (placed_step m a.p) (placed_settle m (a.turns - 1)) x
    (joined_in a.p c.piece_alone.new.running) c.settle_alone.new.running
    a.trace.now.notes c.piece_alone.new.trace.notes c.settle_alone.new.trace.notes d e
    (g.D.Disk.seen c.settle_alone.new.disk)
    (rw c.if-piece_alone.true at c.piece_alone.ensures.went) c.settle_alone.ensures)

pub returns-else-piece_alone : goal.returns-else-piece_alone
returns-else-piece_alone g κ c =
    let a = c.args in
    let m = g.C.Meaning.Rules.meaning in
    let at = c.requires.at in
    let plain = c.is_plain.ensures c.if-not-is_plain.false in
    let x = joined_in a.p a.running.now in
    let y = c.piece_alone.new.running in
    let d = g.D.Disk.seen a.disk.now in
    let e = g.D.Disk.seen c.piece_alone.new.disk in
    let turns : a.turns ≡ suc (a.turns - 1) = omega (arith, c.if-turns-eq0.false) in
    let free = plain_unblocked m (sound_in_place m g.C.Meaning.Rules.laws) g.C.Meaning.Rules.laws
    x a.p plain.flight at.running at.abstraction c.requires.idle.held plain.stands plain.user
    (ap length plain.none) in
    let went = rw c.if-piece_alone.false at c.piece_alone.ensures.went in
    went_as m (placed_settle m a.turns) (λ r. placed_settle m (a.turns - 1) (placed_step m a.p r)) x
    y a.trace.now.notes c.piece_alone.new.trace.notes d e
    (settle_free m a.turns (a.turns - 1) (placed_of x) a.p turns
    (first_alone m a.running.now a.p c.requires.idle.order free))
    (went_then m (placed_step m a.p) (placed_settle m (a.turns - 1)) x y y a.trace.now.notes
    c.piece_alone.new.trace.notes c.piece_alone.new.trace.notes d e e
    went (went_empty m (a.turns - 1) y c.piece_alone.new.trace.notes e
    c.piece_alone.ensures.idle.order went.running went.abstraction))
