use Rattle.std.proofs.Common.{◌∙◌, ap, refl, sym, Some}
use Rattle.graft_loader.specs.Slots.{table_of}
use Rattle.call_pieces.specs.Stores.{world_of_store}
use Rattle.kernel_model.specs.Bare.{call_with}
use Rattle.kernel_model.specs.World.{World}
use Rattle.kernel_model.specs.declared.Event.TheVariants.{Sys}
use Rattle.kernel_model.specs.declared.Note.TheVariants.{Refused}
use Rattle.kernel_model.specs.declared.Refusal.TheVariants.{NoProcess, Busy}
use Rattle.placed_laws.specs.Keeping.{first_placed}
use Rattle.placed_laws.specs.PlacedSteps.{placed_joins, with_placed_call}
use Rattle.placed_laws.specs.PlacedEvents.{placed_event_on, placed_last}
use Rattle.kernel_core.specs.EventParts.{settled_newest}
use Rattle.running_kernel.specs.Idle.{joined_in}
use Rattle.running_kernel.specs.Views.{placed_of}
use Rattle.kernel_core.proofs.EventLemmas.{refused_early, refused_elsewise, no_call_told}
use Rattle.kernel_core.proofs.EventLemmas.{sys_begun, sys_busy, sys_refused, sys_unliving}
use Rattle.kernel_core.proofs.EventLemmas.{went_refused, went_refused_at}
use Rattle.kernel_core.proofs.NewestLemmas.{newest_first}
use Rattle.kernel_core.proofs.RestLemmas.{runs_as, runs_from}
use Rattle.kernel_core.proofs.WentLemmas.{went_then}
use Rattle.kernel_core.proofs.events.system.Goals as goal

pub returns-then-not-living : goal.returns-then-not-living
returns-then-not-living g c =
    let m = g.C.Meaning.Rules.meaning in
    let a = c.args in
    let f = placed_event_on m a.request.number
    (Sys a.p (call_with a.request.call a.request.bytes.now.items)) in
    let d = g.D.Disk.seen a.disk.now in
    runs_from m f a.running.now a.running.now a.trace.now.notes c.push.new.self d d
    (went_refused m f a.running.now (Refused a.request.number NoProcess) a.trace.now.notes
    c.push.new.self d c.requires.running
    c.requires.abstraction (sys_unliving m (placed_of a.running.now)
    a.request.number a.p (call_with a.request.call a.request.bytes.now.items)
    (sym c.living.ensures.value ∙ c.if-not-living.true)) c.push.ensures refl)

pub returns-in-Some : goal.returns-in-Some
returns-in-Some g c =
    let m = g.C.Meaning.Rules.meaning in
    let a = c.args in
    let f = placed_event_on m a.request.number
    (Sys a.p (call_with a.request.call a.request.bytes.now.items)) in
    let d = g.D.Disk.seen a.disk.now in
    runs_from m f a.running.now a.running.now a.trace.now.notes c.push-in-Some.new.self d d
    (went_refused m f a.running.now
    (Refused a.request.number (Busy c.in-Some.busy)) a.trace.now.notes
    c.push-in-Some.new.self d c.requires.running
    c.requires.abstraction (sys_busy m (placed_of a.running.now)
    a.request.number a.p (call_with a.request.call a.request.bytes.now.items)
    c.in-Some.busy (sym c.living.ensures.value ∙ c.if-not-living.false)
    (sym c.in-Some.is ∙ c.call_number.ensures)) c.push-in-Some.ensures refl)

pub start_call-requires-clause-at : goal.start_call-requires-clause-at
start_call-requires-clause-at g c =
    record {
      process = c.living.ensures.number c.if-not-living.false;
      running = c.requires.running;
      abstraction = c.requires.abstraction;
    }

pub start_call-requires-clause-none : goal.start_call-requires-clause-none
start_call-requires-clause-none g c =
    let a = c.args in
    no_call_told (placed_of a.running.now) a.p c.call_number.result c.call_number.ensures
    c.in_default.is

pub returns-in-Err : goal.returns-in-Err
returns-in-Err g c =
    let m = g.C.Meaning.Rules.meaning in
    let a = c.args in
    let h = c.in-Err.ensures in
    let v = world_of_store a.running.now.store in
    let images = table_of a.running.now.images in
    let call = call_with a.request.call a.request.bytes.now.items in
    let f = placed_event_on m a.request.number (Sys a.p call) in
    let d = g.D.Disk.seen a.disk.now in
    runs_from m f a.running.now c.start_call.new.running a.trace.now.notes c.push-in-Err.new.self d d
    (went_refused_at m f a.running.now
    c.start_call.new.running (Refused a.request.number c.in-Err.refusal) a.trace.now.notes
    c.push-in-Err.new.self d h.running c.requires.abstraction
    h.placed (sys_refused m (placed_of a.running.now) a.request.number a.p
    (call_with a.request.call a.request.bytes.now.items) c.in-Err.refusal
    (sym c.living.ensures.value ∙ c.if-not-living.false) (no_call_told (placed_of a.running.now)
    a.p c.call_number.result c.call_number.ensures c.in_default.is) h.refused)
    c.push-in-Err.ensures
    (refused_elsewise a.request.number c.in-Err.refusal (refused_early c.in-Err.refusal
    (m.early v images a.p call) h.refused (g.met.C.Calls.no_early_fault v images a.p call))))

pub run_call-requires : goal.run_call-requires
run_call-requires g c =
    let w = c.in-Ok.ensures.went c.args.trace.now.notes (g.D.Disk.seen c.args.disk.now) in
    record {
      process = c.living.ensures.number c.if-not-living.false;
      running = w.running;
      abstraction = w.abstraction;
      disk = ap (λ (v : World). v.disk_size) w.world ∙ c.requires.disk;
    }

pub returns-in-Ok : goal.returns-in-Ok
returns-in-Ok g c =
    let a = c.args in
    let m = g.C.Meaning.Rules.meaning in
    let h = c.in-Ok.ensures in
    let t = h.first in
    let d = g.D.Disk.seen a.disk.now in
    let e = g.D.Disk.seen c.run_call.new.disk in
    let x = placed_of a.running.now in
    let call = call_with a.request.call a.request.bytes.now.items in
    let first = first_placed a.request.number t in
    let none = no_call_told x a.p c.call_number.result c.call_number.ensures c.in_default.is in
    runs_as m (placed_event_on m a.request.number (Sys a.p call))
    (λ r. placed_last m a.p (settled_newest m a.p (placed_joins a.p (with_placed_call a.p (Some first) r))))
    a.running.now c.run_call.new.running a.trace.now.notes c.run_call.new.trace.notes d e
    (λ blocks notes io s. sys_begun m x a.request.number a.p call t
    (sym c.living.ensures.value ∙ c.if-not-living.false) none h.granted blocks notes io
    ∙ ap (placed_last m a.p) (newest_first m g.C.Meaning.Rules.laws x a.p first none blocks notes io s))
    (went_then m (λ r. placed_joins a.p (with_placed_call a.p (Some first) r))
    (λ r. placed_last m a.p (settled_newest m a.p r))
    a.running.now (joined_in a.p c.start_call.new.running) c.run_call.new.running
    a.trace.now.notes a.trace.now.notes c.run_call.new.trace.notes d d e
    (h.went a.trace.now.notes d) c.run_call.ensures)
