use Rattle.std.proofs.Common.{◌≡◌, ◌∙◌, ap, sym, Option, Some, None}
use Rattle.kernel_model.specs.History.{begin_at}
use Rattle.call_pieces.specs.Stores.{world_of_store, objects_of}
use Rattle.graft_levels.specs.Slots.{table_of}
use Rattle.placed_laws.specs.Placed.{PlacedCall}
use Rattle.call_pieces.specs.Works.{stage_of}
use Rattle.running_kernel.specs.declared.running.Flight.{Flight}
use Rattle.placed_laws.proofs.Laws.{sound_in_place, ready_in_place, owners_stay}
use Rattle.kernel_steps.specs.Moves.{come_to, fed_by, needed_by}
use Rattle.kernel_steps.specs.Steps.{finishes}
use Rattle.placed_laws.specs.PlacedSteps.{placed_call_step}
use Rattle.running_kernel.specs.Views.{placed_of, flight_of, call_in_place}
use Rattle.running_kernel.proofs.HinderLemmas.{may_come, stands}
use Rattle.kernel_steps.proofs.StepLemmas.{alone_at, done_as, same_call}
use Rattle.kernel_steps.proofs.AskLemmas.{asked_lives, asks_empty, asks_none, entered_done}
use Rattle.kernel_steps.proofs.AskLemmas.{not_there, ready_at_once, there_is}
use Rattle.std.specs.Prelude.{option_map, option_copied}
use Rattle.kernel_steps.proofs.steps.piece_step.Goals as goal

pub finish-requires-clause-alone : goal.finish-requires-clause-alone
finish-requires-clause-alone g c = alone_at c.args.running.now c.args.p c.requires.at.running c.requires.at.process

pub finish-requires-clause-answer : goal.finish-requires-clause-answer
finish-requires-clause-answer g c =
    let m = g.C.Meaning.Rules.meaning in
    record {
      none = c.requires.none;
      ready = λ f is. ready_at_once m (ready_in_place m g.C.Meaning.Rules.laws) c.args.running.now
          c.args.p f c.requires.at.abstraction is;
    }

pub asks-requires : goal.asks-requires
asks-requires g c =
    let m = g.C.Meaning.Rules.meaning in
    let a = c.args in
    let x = a.running.now in
    let call = c.in-Some.call.now in
    let fl : c.flight-flight.result.now ≡ flight_of x.calls.items a.p = c.flight-flight.ensures
    ∙ ap (λ fs. flight_of fs a.p) c.deref.ensures.value in
    let there = sym (ap (λ (f : Flight). f.call) fl) ∙ (sym c.get.ensures ∙ ap option_copied c.in-Some.is) in
    record {
      ready = may_come m g.C.Meaning.Rules.laws (world_of_store x.store) (table_of x.images)
          (objects_of x.store) call.work.caller (stage_of call.work) (stands m (sound_in_place m
          g.C.Meaning.Rules.laws) x a.p call c.requires.at.running c.requires.at.abstraction there);
    }

pub returns-in_default-asks : goal.returns-in_default-asks
returns-in_default-asks g c =
    let m = g.C.Meaning.Rules.meaning in
    λ pc is.
    let a = c.args in
    let x = a.running.now in
    let call = c.in-Some.call.now in
    let fl : c.flight-flight.result.now ≡ flight_of x.calls.items a.p = c.flight-flight.ensures
    ∙ ap (λ fs. flight_of fs a.p) c.deref.ensures.value in
    let there = sym (ap (λ (f : Flight). f.call) fl) ∙ (sym c.get.ensures ∙ ap option_copied c.in-Some.is) in
    let t : call_in_place call ≡ pc = same_call call pc (ap (option_map call_in_place) (sym there) ∙ is) in
    done_as (λ r. placed_call_step m a.p (Some pc) r) (finishes m a.p pc None)
    x c.finish.new.running a.p a.trace.now.notes c.finish.new.trace.notes
    (g.D.Disk.seen a.disk.now) (g.D.Disk.seen c.finish.new.disk)
    (asks_none m x a.p pc c.requires.none
    (ap (λ (e : PlacedCall). m.asks (world_of_store x.store) (objects_of x.store) a.p e.stage)
    (sym t) ∙ ap (λ q. m.asks (world_of_store x.store) (objects_of x.store) q
    (stage_of call.work)) (sym (c.requires.at.running.callers a.p call there))
    ∙ sym c.asks.ensures ∙ c.in_default-asks.is)) (c.finish.ensures pc is)

pub has_graft-requires : goal.has_graft-requires
has_graft-requires g c =
    let m = g.C.Meaning.Rules.meaning in
    let a = c.args in
    let x = a.running.now in
    let call = c.in-Some.call.now in
    let fl : c.flight-flight.result.now ≡ flight_of x.calls.items a.p = c.flight-flight.ensures
    ∙ ap (λ fs. flight_of fs a.p) c.deref.ensures.value in
    let there = sym (ap (λ (f : Flight). f.call) fl) ∙ (sym c.get.ensures ∙ ap option_copied c.in-Some.is) in
    (g.C.Meaning.Rules.laws.ask.ranges (world_of_store x.store) (table_of x.images)
    (objects_of x.store) call.work.caller (stage_of call.work) c.in-Some-asks.point
    (stands m (sound_in_place m g.C.Meaning.Rules.laws) x a.p call c.requires.at.running
    c.requires.at.abstraction there) (sym c.asks.ensures ∙ c.in-Some-asks.is)).graft.1

pub finish-requires-then-not-has_graft-clause-alone : goal.finish-requires-then-not-has_graft-clause-alone
finish-requires-then-not-has_graft-clause-alone g c =
    alone_at c.args.running.now c.args.p c.requires.at.running c.requires.at.process

pub finish-requires-then-not-has_graft-clause-answer : goal.finish-requires-then-not-has_graft-clause-answer
finish-requires-then-not-has_graft-clause-answer g c =
    let m = g.C.Meaning.Rules.meaning in
    record {
      none = c.requires.none;
      ready = λ f is. ready_at_once m (ready_in_place m g.C.Meaning.Rules.laws) c.args.running.now
          c.args.p f c.requires.at.abstraction is;
    }

pub returns-then-not-has_graft : goal.returns-then-not-has_graft
returns-then-not-has_graft g c =
    let m = g.C.Meaning.Rules.meaning in
    λ pc is.
    let a = c.args in
    let x = a.running.now in
    let call = c.in-Some.call.now in
    let fl : c.flight-flight.result.now ≡ flight_of x.calls.items a.p = c.flight-flight.ensures
    ∙ ap (λ fs. flight_of fs a.p) c.deref.ensures.value in
    let there = sym (ap (λ (f : Flight). f.call) fl) ∙ (sym c.get.ensures ∙ ap option_copied c.in-Some.is) in
    let t : call_in_place call ≡ pc = same_call call pc (ap (option_map call_in_place) (sym there) ∙ is) in
    done_as (λ r. placed_call_step m a.p (Some pc) r) (finishes m a.p pc None)
    x c.finish-then-not-has_graft.new.running a.p a.trace.now.notes
    c.finish-then-not-has_graft.new.trace.notes (g.D.Disk.seen a.disk.now)
    (g.D.Disk.seen c.finish-then-not-has_graft.new.disk)
    (asks_empty m x a.p pc c.requires.none c.in-Some-asks.point (ap (λ (e : PlacedCall). m.asks
    (world_of_store x.store) (objects_of x.store) a.p e.stage) (sym t)
    ∙ ap (λ q. m.asks (world_of_store x.store) (objects_of x.store) q (stage_of call.work)) (sym
    (c.requires.at.running.callers a.p call there)) ∙ sym c.asks.ensures ∙ c.in-Some-asks.is)
    (not_there c.has_graft.result ((objects_of x.store).accounts.graft
    c.in-Some-asks.point.installer c.in-Some-asks.point.point) c.has_graft.ensures
    c.if-not-has_graft.true)) (c.finish-then-not-has_graft.ensures pc is)

pub enter-requires-clause-graft : goal.enter-requires-clause-graft
enter-requires-clause-graft g c =
    let m = g.C.Meaning.Rules.meaning in
    let a = c.args in
    let x = a.running.now in
    let call = c.in-Some.call.now in
    let fl : c.flight-flight.result.now ≡ flight_of x.calls.items a.p = c.flight-flight.ensures
    ∙ ap (λ fs. flight_of fs a.p) c.deref.ensures.value in
    let there = sym (ap (λ (f : Flight). f.call) fl) ∙ (sym c.get.ensures ∙ ap option_copied c.in-Some.is) in
    let range = (g.C.Meaning.Rules.laws.ask.ranges (world_of_store x.store) (table_of x.images)
    (objects_of x.store) call.work.caller (stage_of call.work) c.in-Some-asks.point
    (stands m (sound_in_place m g.C.Meaning.Rules.laws) x a.p call c.requires.at.running
    c.requires.at.abstraction there) (sym c.asks.ensures ∙ c.in-Some-asks.is)).graft in
    let found = there_is c.has_graft.result ((objects_of x.store).accounts.graft
    c.in-Some-asks.point.installer c.in-Some-asks.point.point) c.has_graft.ensures
    c.if-not-has_graft.false in
    record {
      owner = range.0;
      point = range.1;
      lives =
          asked_lives (world_of_store x.store) (objects_of x.store) c.in-Some-asks.point.installer
          c.in-Some-asks.point.point (stands m (sound_in_place m g.C.Meaning.Rules.laws) x a.p call
          c.requires.at.running c.requires.at.abstraction there).store
          found;
      stands = found;
    }

pub returns : goal.returns
returns g c =
    let m = g.C.Meaning.Rules.meaning in
    λ pc is.
    let a = c.args in
    let x = a.running.now in
    let call = c.in-Some.call.now in
    let fl : c.flight-flight.result.now ≡ flight_of x.calls.items a.p = c.flight-flight.ensures
    ∙ ap (λ fs. flight_of fs a.p) c.deref.ensures.value in
    let there = sym (ap (λ (f : Flight). f.call) fl) ∙ (sym c.get.ensures ∙ ap option_copied c.in-Some.is) in
    let y = c.enter.new.running in
    let t : call_in_place call ≡ pc = same_call call pc (ap (option_map call_in_place) (sym there) ∙ is) in
    entered_done m owners_stay x y a.p pc c.in-Some-asks.point a.trace.now.notes
    (g.D.Disk.seen a.disk.now) c.requires.at.running c.requires.at.process c.requires.none
    (ap (λ (e : PlacedCall). m.asks (world_of_store x.store) (objects_of x.store) a.p e.stage)
    (sym t) ∙ ap (λ q. m.asks (world_of_store x.store) (objects_of x.store) q
    (stage_of call.work)) (sym (c.requires.at.running.callers a.p call there))
    ∙ sym c.asks.ensures ∙ c.in-Some-asks.is)
    (there_is c.has_graft.result ((objects_of x.store).accounts.graft c.in-Some-asks.point.installer
    c.in-Some-asks.point.point) c.has_graft.ensures c.if-not-has_graft.false)
    c.enter.ensures.moved
    (c.enter.ensures.config
    ∙ ap (λ (o : Option PlacedCall). come_to a.p (begin_at (table_of x.images)
    (objects_of x.store) a.p (needed_by m (world_of_store x.store) (objects_of x.store) a.p o)
    (fed_by m o) c.in-Some-asks.point) (placed_of x)) is)
