use Rattle.std.proofs.Common.{◌≡◌, ◌-◌, suc, ◌∙◌, sym, arith}
use Rattle.placed_laws.specs.PlacedSteps.{placed_step}
use Rattle.placed_laws.specs.PlacedEvents.{placed_rested, placed_settle}
use Rattle.placed_laws.proofs.Laws.{same_shown}
use Rattle.kernel_core.proofs.WentLemmas.{went_as, went_then}
use Rattle.kernel_core.proofs.SettleLemmas.{called_still, can_run, free_called, free_small}
use Rattle.kernel_core.proofs.SettleLemmas.{free_unblocked, settle_blocked, settle_free}
use Rattle.kernel_core.proofs.SettleLemmas.{settle_none, unblocked_still, went_from}
use Rattle.kernel_core.proofs.settle.+settle.Goals as goal

pub returns-then-turns-eq0 : goal.returns-then-turns-eq0
returns-then-turns-eq0 g κ c =
    let a = c.args in
    went_as g.C.Meaning.Rules.meaning (placed_settle g.C.Meaning.Rules.meaning a.turns)
    (placed_rested g.C.Meaning.Rules.meaning) a.running.now c.rest.new.running a.trace.now.notes
    a.trace.now.notes (g.D.Disk.seen a.disk.now) (g.D.Disk.seen a.disk.now)
    (λ blocks notes io. settle_none g.C.Meaning.Rules.meaning a.turns _ c.if-turns-eq0.true)
    (c.rest.ensures.went a.trace.now.notes (g.D.Disk.seen a.disk.now))

pub returns-in_default : goal.returns-in_default
returns-in_default g κ c =
    let a = c.args in
    let rested = rw c.in_default.is at c.next_or_rest.ensures.went in
    went_as g.C.Meaning.Rules.meaning (placed_settle g.C.Meaning.Rules.meaning a.turns)
    (placed_rested g.C.Meaning.Rules.meaning) a.running.now c.next_or_rest.new.running
    a.trace.now.notes a.trace.now.notes (g.D.Disk.seen a.disk.now) (g.D.Disk.seen a.disk.now)
    (settle_blocked g.C.Meaning.Rules.meaning a.turns _
    (omega (arith, c.if-turns-eq0.false)) (sym c.next_or_rest.ensures.next ∙ c.in_default.is))
    (rested a.trace.now.notes (g.D.Disk.seen a.disk.now))

pub step-requires-clause-at : goal.step-requires-clause-at
step-requires-clause-at g κ c =
    can_run g.C.Meaning.Rules.meaning c.args.running.now c.next_or_rest.new.running
    (g.D.Disk.seen c.args.disk.now) c.in-Some.p (rw c.in-Some.is at c.next_or_rest.ensures.kept)
    (free_small g.C.Meaning.Rules.meaning
    (same_shown g.C.Meaning.Rules.meaning g.C.Meaning.Rules.laws) _ c.in-Some.p
    c.requires.abstraction (sym c.next_or_rest.ensures.next ∙ c.in-Some.is))
    c.requires.running c.requires.abstraction c.requires.disk

pub step-requires-clause-call : goal.step-requires-clause-call
step-requires-clause-call g κ c =
    called_still c.args.running.now c.next_or_rest.new.running c.in-Some.p
    (rw c.in-Some.is at c.next_or_rest.ensures.kept)
    (free_called g.C.Meaning.Rules.meaning
    (same_shown g.C.Meaning.Rules.meaning g.C.Meaning.Rules.laws) _ c.in-Some.p
    c.requires.abstraction (sym c.next_or_rest.ensures.next ∙ c.in-Some.is))

pub step-requires-clause-free : goal.step-requires-clause-free
step-requires-clause-free g κ c =
    unblocked_still g.C.Meaning.Rules.meaning c.args.running.now c.next_or_rest.new.running
    c.in-Some.p (rw c.in-Some.is at c.next_or_rest.ensures.kept)
    (free_unblocked g.C.Meaning.Rules.meaning _ c.in-Some.p c.requires.abstraction
    (sym c.next_or_rest.ensures.next ∙ c.in-Some.is))

pub returns : goal.returns
returns g κ c =
    let a = c.args in
    let turns : a.turns ≡ suc (a.turns - 1) = omega (arith, c.if-turns-eq0.false) in
    let stepped = went_from g.C.Meaning.Rules.meaning (placed_step g.C.Meaning.Rules.meaning
    c.in-Some.p) a.running.now c.next_or_rest.new.running c.step.new.running a.trace.now.notes
    c.step.new.trace.notes (g.D.Disk.seen a.disk.now) (g.D.Disk.seen c.step.new.disk)
    (rw c.in-Some.is at c.next_or_rest.ensures.kept) c.step.ensures in
    went_as g.C.Meaning.Rules.meaning (placed_settle g.C.Meaning.Rules.meaning a.turns)
    (λ r. placed_settle g.C.Meaning.Rules.meaning
    (a.turns - 1) (placed_step g.C.Meaning.Rules.meaning c.in-Some.p r)) a.running.now
    c.settle.new.running a.trace.now.notes c.settle.new.trace.notes (g.D.Disk.seen a.disk.now)
    (g.D.Disk.seen c.settle.new.disk)
    (settle_free g.C.Meaning.Rules.meaning a.turns (a.turns - 1) _ c.in-Some.p turns
    (sym c.next_or_rest.ensures.next ∙ c.in-Some.is))
    (went_then g.C.Meaning.Rules.meaning (placed_step g.C.Meaning.Rules.meaning c.in-Some.p)
    (placed_settle g.C.Meaning.Rules.meaning (a.turns - 1)) a.running.now c.step.new.running
    c.settle.new.running a.trace.now.notes c.step.new.trace.notes c.settle.new.trace.notes
    (g.D.Disk.seen a.disk.now) (g.D.Disk.seen c.step.new.disk) (g.D.Disk.seen c.settle.new.disk)
    stepped c.settle.ensures)
