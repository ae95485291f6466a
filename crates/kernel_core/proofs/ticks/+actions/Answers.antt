use Rattle.std.proofs.Common.{◌≡◌, ◌-◌, suc, ◌∙◌, ap, sym, arith}
use Rattle.std.specs.Prelude.{option_map}
use Rattle.placed_laws.specs.PlacedEvents.{placed_actions, placed_entry_action, placed_settled}
use Rattle.running_kernel.specs.Orders.{entry_of}
use Rattle.placed_laws.proofs.Laws.{same_shown}
use Rattle.kernel_core.proofs.TickLemmas.{actions_none, actions_some, actions_zero, expired_small}
use Rattle.kernel_core.proofs.WentLemmas.{still_on, went_as, went_nothing, went_then}
use Rattle.kernel_core.proofs.ticks.+actions.Goals as goal

pub returns-then-turns-eq0 : goal.returns-then-turns-eq0
returns-then-turns-eq0 g κ c =
    let a = c.args in
    went_as g.C.Meaning.Rules.meaning (placed_actions g.C.Meaning.Rules.meaning a.turns)
    (λ r. r) a.running.now a.running.now a.trace.now.notes a.trace.now.notes
    (g.D.Disk.seen a.disk.now) (g.D.Disk.seen a.disk.now)
    (λ blocks notes io. actions_zero g.C.Meaning.Rules.meaning a.turns _ c.if-turns-eq0.true)
    (went_nothing g.C.Meaning.Rules.meaning a.running.now a.trace.now.notes
    (g.D.Disk.seen a.disk.now) c.requires.running c.requires.abstraction)

pub returns-in_default : goal.returns-in_default
returns-in_default g κ c =
    let a = c.args in
    went_as g.C.Meaning.Rules.meaning (placed_actions g.C.Meaning.Rules.meaning a.turns)
    (λ r. r) a.running.now a.running.now a.trace.now.notes a.trace.now.notes
    (g.D.Disk.seen a.disk.now) (g.D.Disk.seen a.disk.now)
    (actions_none g.C.Meaning.Rules.meaning a.turns _
    (sym c.expired.ensures ∙ ap (option_map entry_of) c.in_default.is))
    (went_nothing g.C.Meaning.Rules.meaning a.running.now a.trace.now.notes
    (g.D.Disk.seen a.disk.now) c.requires.running c.requires.abstraction)

pub act-requires-clause-process : goal.act-requires-clause-process
act-requires-clause-process g κ c =
    expired_small g.C.Meaning.Rules.meaning
    (same_shown g.C.Meaning.Rules.meaning g.C.Meaning.Rules.laws) _ (entry_of c.in-Some.waiting)
    c.requires.abstraction (sym c.expired.ensures ∙ ap (option_map entry_of) c.in-Some.is)

pub settle_all-requires : goal.settle_all-requires
settle_all-requires g κ c = still_on c.act.ensures c.requires.disk

pub returns : goal.returns
returns g κ c =
    let a = c.args in
    let e = entry_of c.in-Some.waiting in
    let turns : a.turns ≡ suc (a.turns - 1) = omega (arith, c.if-turns-eq0.false) in
    went_as g.C.Meaning.Rules.meaning (placed_actions g.C.Meaning.Rules.meaning a.turns)
    (λ r. placed_actions g.C.Meaning.Rules.meaning (a.turns - 1) (placed_settled
    g.C.Meaning.Rules.meaning (placed_entry_action g.C.Meaning.Rules.meaning e e.blocker r)))
    a.running.now c.actions.new.running a.trace.now.notes c.actions.new.trace.notes
    (g.D.Disk.seen a.disk.now) (g.D.Disk.seen c.actions.new.disk)
    (actions_some g.C.Meaning.Rules.meaning a.turns (a.turns - 1) _ e turns
    (sym c.expired.ensures ∙ ap (option_map entry_of) c.in-Some.is))
    (went_then g.C.Meaning.Rules.meaning (λ r. placed_settled g.C.Meaning.Rules.meaning
    (placed_entry_action g.C.Meaning.Rules.meaning e e.blocker r))
    (placed_actions g.C.Meaning.Rules.meaning (a.turns - 1)) a.running.now
    c.settle_all.new.running c.actions.new.running a.trace.now.notes
    c.settle_all.new.trace.notes c.actions.new.trace.notes (g.D.Disk.seen a.disk.now)
    (g.D.Disk.seen c.settle_all.new.disk) (g.D.Disk.seen c.actions.new.disk)
    (went_then g.C.Meaning.Rules.meaning (placed_entry_action g.C.Meaning.Rules.meaning e e.blocker)
    (placed_settled g.C.Meaning.Rules.meaning) a.running.now c.act.new.running
    c.settle_all.new.running a.trace.now.notes c.act.new.trace.notes
    c.settle_all.new.trace.notes (g.D.Disk.seen a.disk.now) (g.D.Disk.seen c.act.new.disk)
    (g.D.Disk.seen c.settle_all.new.disk) c.act.ensures c.settle_all.ensures)
    c.actions.ensures)
