use Rattle.std.proofs.Common.{◌≡◌, ◌∙◌, ap, sym, subst, length, refl, Some, None}
use Rattle.std.specs.Prelude.{option_map}
use Rattle.fixed_room.specs.Held.{with_item}
use Rattle.kernel_model.specs.Laws.{IsReady}
use Rattle.call_pieces.specs.Stores.{world_of_store, objects_of}
use Rattle.graft_levels.specs.Slots.{table_of}
use Rattle.call_pieces.specs.Works.{stage_of}
use Rattle.placed_laws.specs.PlacedSteps.{is_placed_at_piece, placed_call_step}
use Rattle.placed_laws.proofs.Laws.{steps_stand, held_stays, ready_in_place, sound_in_place}
use Rattle.running_kernel.specs.declared.running.Flight.{Flight}
use Rattle.running_kernel.specs.declared.running.Running.{Running}
use Rattle.running_kernel.specs.Idle.{joined_in}
use Rattle.running_kernel.specs.Views.{placed_of, flight_of, chain_of, call_in_place, levels_at}
use Rattle.running_kernel.proofs.PlainLemmas.{plain_unblocked}
use Rattle.kernel_steps.specs.Moments.{kernel_moment}
use Rattle.kernel_steps.specs.Refines.{PieceDone}
use Rattle.kernel_steps.specs.Steps.{finishes}
use Rattle.kernel_steps.proofs.AloneLemmas.{at_piece, went_alone}
use Rattle.kernel_steps.proofs.AskLemmas.{asks_nowhere, ready_at_once}
use Rattle.kernel_steps.proofs.CallLemmas.{with_call_of, chains_stay, call_of_changed}
use Rattle.kernel_steps.proofs.MoveLemmas.{fetched}
use Rattle.kernel_steps.proofs.PartLemmas.{at_call, none_at}
use Rattle.kernel_steps.proofs.RunningLemmas.{within_flights}
use Rattle.kernel_steps.proofs.StepLemmas.{alone_at, done_as, finish_done, same_place}
use Rattle.kernel_steps.proofs.steps.piece_alone.Goals as goal

pub do_piece-requires-clause-ready : goal.do_piece-requires-clause-ready
do_piece-requires-clause-ready g c =
    λ f is.
    let a = c.args in
    let x = joined_in a.p a.running.now in
    let m = g.C.Meaning.Rules.meaning in
    let at = c.requires.at in
    let fl : c.index_mut-flight.result.now ≡ flight_of x.calls.items a.p =
    fetched x.calls.items a.p c.index_mut-flight.result.now at.running.sixteen at.process
    c.index_mut-flight.ensures.value in
    let there = sym (ap (λ (l : Flight). l.call) fl) ∙ is in (
      table_of x.images,
      subst (λ q. IsReady m (world_of_store x.store) (table_of x.images) (objects_of x.store) q
          (stage_of f.work) None) (sym (at.running.callers a.p f there))
          (ready_at_once m (ready_in_place m g.C.Meaning.Rules.laws) x a.p f at.abstraction there),
    )

pub returns-clause-went : goal.returns-clause-went
returns-clause-went g c =
    let a = c.args in
    let m = g.C.Meaning.Rules.meaning in
    let laws = g.C.Meaning.Rules.laws in
    let at = c.requires.at in
    let plain = c.requires.plain in
    let x = joined_in a.p a.running.now in
    let d = g.D.Disk.seen a.disk.now in
    let e = g.D.Disk.seen c.do_piece.new.disk in
    let kept = a.trace.now.notes in
    let kept_new = c.do_piece.new.trace.notes in
    let slot = c.do_piece.new.slot in
    let fl : c.index_mut-flight.result.now ≡ flight_of x.calls.items a.p =
    fetched x.calls.items a.p c.index_mut-flight.result.now at.running.sixteen at.process
    c.index_mut-flight.ensures.value in
    let y : Running g.row.C.Denot g.row.B.Denot g.row.C-Meaning.Denot _ = record {
      store = c.do_piece.new.store;
      clock = a.running.now.clock;
      images = a.running.now.images;
      locks = a.running.now.locks;
      calls = with_item a.running.now.calls a.p
          (record { call = slot; chain = c.index_mut-flight.result.now.chain });
      order = a.running.now.order;
      table = a.running.now.table;
    } in
    let f = plain.flight in
    let pc = call_in_place f in
    let is = ap (option_map call_in_place) plain.stands in
    let there = ap (λ (l : Flight). l.call) fl ∙ plain.stands in
    let set = ap (λ (l : Flight). with_call_of x.calls.items a.p slot l) fl in
    let within = within_flights x.calls.items a.p at.running.sixteen at.process in
    let done = finish_done m x (joined_in a.p y) a.p pc f slot None kept kept_new d e
    (alone_at x a.p at.running at.process) plain.none at.process plain.stands refl set refl refl
    refl refl c.do_piece.ensures.store.world c.do_piece.ensures.store.memory
    (λ h left. c.do_piece.ensures.caller f h there left) (c.do_piece.ensures.done f there) in
    let step = at_call m x (joined_in a.p y) a.p pc kept kept_new d e is
    (done_as (λ r. placed_call_step m a.p (Some pc) r) (finishes m a.p pc None) x (joined_in a.p y)
    a.p kept kept_new d e (asks_nowhere m x a.p pc plain.none plain.nowhere) done) in
    let free = plain_unblocked m (sound_in_place m laws) laws x a.p f at.running at.abstraction
    c.requires.idle.held plain.stands plain.user (ap length plain.none) in
    let own = ap (λ (l : Flight). l.call) (ap (λ fs. flight_of fs a.p) set)
    ∙ call_of_changed x.calls.items a.p slot within a.p
    ∙ same_place a.p slot (λ q. (flight_of x.calls.items q).call) in
    let chain = chains_stay x.calls.items a.p slot y.calls.items within set a.p in
    let levels = none_at y a.p (ap (λ l. l.levels) chain ∙ plain.none) in
    went_alone m (sound_in_place m laws) (steps_stand m laws) (held_stays m laws) x y a.p
    pc c.is_taken.result kept kept_new d e at.running at.process at.abstraction is free
    c.requires.idle.order
    (c.is_taken.ensures ∙ at_piece slot (levels_at y a.p) levels ∙ ap
    (λ o. is_placed_at_piece (option_map call_in_place o) (levels_at y a.p)) (sym own)) step
