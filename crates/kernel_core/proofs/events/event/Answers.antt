use Rattle.std.proofs.Common.{◌∙◌, ap, sym}
use Rattle.kernel_model.specs.Bare.{call_with, event_with}
use Rattle.kernel_model.specs.declared.BareEvent.{BareEvent}
use Rattle.kernel_model.specs.declared.Event.TheVariants.{Tick, Step, Sys}
use Rattle.running_kernel.specs.Views.{placed_of}
use Rattle.placed_laws.specs.PlacedEvents.{placed_event_on}
use Rattle.placed_laws.proofs.Laws.{events_stand}
use Rattle.placed_laws.proofs.HistoryLaws.{events_leave_few_notes}
use Rattle.kernel_core.proofs.EventLemmas.{happened_as, happened_by}
use Rattle.kernel_core.proofs.RestLemmas.{from_did}
use Rattle.kernel_core.proofs.events.event.Goals as goal

pub returns-in-Tick-clause-happened : goal.returns-in-Tick-clause-happened
returns-in-Tick-clause-happened g c =
    let m = g.C.Meaning.Rules.meaning in
    let a = c.args in
    happened_as m (placed_of a.running.now) (placed_of c.tick_event.new.running)
    a.number Tick (event_with a.what a.bytes.now.items) c.tick_event.new.trace.notes
    (g.D.Disk.seen a.disk.now) (g.D.Disk.seen c.tick_event.new.disk)
    (ap (λ (w : BareEvent). event_with w a.bytes.now.items) (sym c.in-Tick.is))
    (happened_by m (events_stand m g.C.Meaning.Rules.laws) (events_leave_few_notes m
    g.C.Meaning.Rules.laws) (placed_of a.running.now) (placed_of c.tick_event.new.running)
    a.number c.size.result Tick a.trace.now.notes c.tick_event.new.trace.notes
    (g.D.Disk.seen a.disk.now) (g.D.Disk.seen c.tick_event.new.disk)
    (c.requires.size ∙ sym c.size.ensures.count) c.requires.no_notes c.size.ensures.whole
    (from_did m (placed_event_on m a.number Tick) (placed_of a.running.now)
    (placed_of c.tick_event.new.running) a.trace.now.notes c.tick_event.new.trace.notes
    (g.D.Disk.seen a.disk.now) (g.D.Disk.seen c.tick_event.new.disk)
    c.tick_event.ensures.refines))

pub returns-in-Step-clause-happened : goal.returns-in-Step-clause-happened
returns-in-Step-clause-happened g c =
    let m = g.C.Meaning.Rules.meaning in
    let a = c.args in
    happened_as m (placed_of a.running.now) (placed_of c.stepped.new.running)
    a.number (Step c.in-Step.p c.in-Step.n) (event_with a.what a.bytes.now.items)
    c.stepped.new.trace.notes (g.D.Disk.seen a.disk.now) (g.D.Disk.seen c.stepped.new.disk)
    (ap (λ (w : BareEvent). event_with w a.bytes.now.items) (sym c.in-Step.is))
    (happened_by m (events_stand m g.C.Meaning.Rules.laws) (events_leave_few_notes m
    g.C.Meaning.Rules.laws) (placed_of a.running.now) (placed_of c.stepped.new.running) a.number
    c.size.result (Step c.in-Step.p c.in-Step.n) a.trace.now.notes c.stepped.new.trace.notes
    (g.D.Disk.seen a.disk.now) (g.D.Disk.seen c.stepped.new.disk)
    (c.requires.size ∙ sym c.size.ensures.count) c.requires.no_notes c.size.ensures.whole c.stepped.ensures.refines)

pub returns-in-Sys-clause-happened : goal.returns-in-Sys-clause-happened
returns-in-Sys-clause-happened g c =
    let m = g.C.Meaning.Rules.meaning in
    let a = c.args in
    happened_as m (placed_of a.running.now) (placed_of c.system.new.running)
    a.number (Sys c.in-Sys.p (call_with c.in-Sys.call c.args.bytes.now.items))
    (event_with a.what a.bytes.now.items) c.system.new.trace.notes (g.D.Disk.seen a.disk.now)
    (g.D.Disk.seen c.system.new.disk)
    (ap (λ (w : BareEvent). event_with w a.bytes.now.items) (sym c.in-Sys.is))
    (happened_by m (events_stand m g.C.Meaning.Rules.laws)
    (events_leave_few_notes m g.C.Meaning.Rules.laws) (placed_of a.running.now)
    (placed_of c.system.new.running) a.number c.size.result
    (Sys c.in-Sys.p (call_with c.in-Sys.call c.args.bytes.now.items)) a.trace.now.notes
    c.system.new.trace.notes (g.D.Disk.seen a.disk.now) (g.D.Disk.seen c.system.new.disk)
    (c.requires.size ∙ sym c.size.ensures.count) c.requires.no_notes
    c.size.ensures.whole c.system.ensures.refines)
