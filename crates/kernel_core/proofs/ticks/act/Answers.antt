use Rattle.std.proofs.Common.{◌∙◌, ap}
use Rattle.std.specs.Prelude.{option_map}
use Rattle.placed_laws.specs.PlacedEvents.{placed_action, placed_entry_action, placed_holder, placed_waiter}
use Rattle.running_kernel.specs.Orders.{blocker_of, entry_of}
use Rattle.running_kernel.specs.Views.{placed_of, run_of}
use Rattle.kernel_core.proofs.WentLemmas.{went_as, went_nothing}
use Rattle.kernel_core.proofs.ticks.act.Goals as goal

pub returns-in_default : goal.returns-in_default
returns-in_default g c =
    let m = g.C.Meaning.Rules.meaning in
    let a = c.args in
    went_as m (placed_entry_action m (entry_of a.waiting) (entry_of a.waiting).blocker)
    (λ r. r) a.running.now a.running.now a.trace.now.notes a.trace.now.notes
    (g.D.Disk.seen a.disk.now) (g.D.Disk.seen a.disk.now)
    (λ blocks notes io. ap (λ o. placed_entry_action m (entry_of a.waiting) (option_map blocker_of
    o) (run_of (placed_of a.running.now) blocks notes io)) c.in_default.is)
    (went_nothing m a.running.now a.trace.now.notes (g.D.Disk.seen a.disk.now) c.requires.on.running
    c.requires.on.abstraction)

pub returns-in-None : goal.returns-in-None
returns-in-None g c =
    let m = g.C.Meaning.Rules.meaning in
    let a = c.args in
    let b = blocker_of c.in-Some.found in
    went_as m (placed_entry_action m (entry_of a.waiting) (entry_of a.waiting).blocker)
    (λ r. placed_waiter m a.waiting.process b (r.placed.call a.waiting.process) r) a.running.now
    c.time_out_waiter.new.running a.trace.now.notes c.time_out_waiter.new.trace.notes
    (g.D.Disk.seen a.disk.now) (g.D.Disk.seen c.time_out_waiter.new.disk)
    (λ blocks notes io. ap (λ o. placed_entry_action m (entry_of a.waiting)
    (option_map blocker_of o) (run_of (placed_of a.running.now) blocks notes io)) c.in-Some.is
    ∙ ap (λ o. placed_action m a.waiting.process b o
    (run_of (placed_of a.running.now) blocks notes io)) c.in-None.is) c.time_out_waiter.ensures

pub returns-in-Some-call : goal.returns-in-Some-call
returns-in-Some-call g c =
    let m = g.C.Meaning.Rules.meaning in
    let a = c.args in
    let b = blocker_of c.in-Some.found in
    went_as m (placed_entry_action m (entry_of a.waiting) (entry_of a.waiting).blocker)
    (placed_holder m a.waiting.process b) a.running.now c.time_out_holder.new.running
    a.trace.now.notes c.time_out_holder.new.trace.notes (g.D.Disk.seen a.disk.now)
    (g.D.Disk.seen c.time_out_holder.new.disk)
    (λ blocks notes io. ap (λ o. placed_entry_action m (entry_of a.waiting)
    (option_map blocker_of o) (run_of (placed_of a.running.now) blocks notes io)) c.in-Some.is
    ∙ ap (λ o. placed_action m a.waiting.process b o (run_of (placed_of a.running.now) blocks notes
    io)) c.in-Some-call.is) c.time_out_holder.ensures
