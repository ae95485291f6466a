use Rattle.std.proofs.Common.{◌≡◌, ◌∙◌, ap, sym, refl}
use Rattle.std.specs.Prelude.{option_map, slice_set}
use Rattle.fixed_room.specs.Held.{with_item}
use Rattle.kernel_model.specs.History.{begin_at}
use Rattle.graft_levels.specs.declared.Chain.{Chain}
use Rattle.graft_levels.specs.Chains.{call_of}
use Rattle.call_pieces.specs.Stores.{world_of_store, objects_of}
use Rattle.graft_levels.specs.Slots.{table_of}
use Rattle.running_kernel.specs.declared.running.Flight.{Flight}
use Rattle.running_kernel.specs.declared.running.Running.{Running}
use Rattle.placed_laws.proofs.Laws.{sound_in_place}
use Rattle.kernel_steps.specs.Moves.{fed_by, needed_by}
use Rattle.running_kernel.specs.Views.{placed_of, flight_of, call_in_place}
use Rattle.kernel_steps.proofs.MoveLemmas.{fetched, moved_by, chain_by, placed_moved}
use Rattle.kernel_steps.proofs.levels.enter.Goals as goal

pub begin_graft-requires-clause-due : goal.begin_graft-requires-clause-due
begin_graft-requires-clause-due g c =
    λ f is.
    let x = c.args.running.now in
    let fl : c.index_mut-flight.result.now ≡ flight_of x.calls.items c.args.p =
    fetched x.calls.items c.args.p c.index_mut-flight.result.now c.requires.at.running.sixteen
    c.requires.at.process c.index_mut-flight.ensures.value in
    let there = sym (ap (λ (l : Flight). l.call) fl) ∙ is in (
      table_of x.images,
      (sound_in_place g.C.Meaning.Rules.meaning g.C.Meaning.Rules.laws).standing
          (placed_of x) c.requires.at.abstraction.kernel c.args.p (call_in_place f)
          c.requires.at.abstraction.stands (ap (option_map call_in_place) there),
    )

pub returns-clause-config : goal.returns-clause-config
returns-clause-config g c =
    let m = g.C.Meaning.Rules.meaning in
    let p = c.args.p in
    let x = c.args.running.now in
    let b = c.begin_graft in
    let y : Running g.row.C.Denot g.row.B.Denot g.row.C-Meaning.Denot _ =
    record {
      store = b.new.store;
      clock = x.clock;
      images = x.images;
      locks = b.new.locks;
      calls = with_item x.calls p b.new.flight;
      order = x.order;
      table = x.table;
    } in
    let r = c.requires.at.running in
    let fl : c.index_mut-flight.result.now ≡ flight_of x.calls.items p =
    fetched x.calls.items p c.index_mut-flight.result.now r.sixteen c.requires.at.process
    c.index_mut-flight.ensures.value in
    let calls : y.calls.items ≡ slice_set x.calls.items p
    (record { call = c.index_mut-flight.result.now.call; chain = b.new.flight.chain }) =
    ap (λ call. slice_set x.calls.items p (record { call = call; chain = b.new.flight.chain })) b.ensures.same_call in
    let begun = λ (l : Flight).
    let call = option_map call_in_place l.call in
    begin_at (table_of x.images) (objects_of x.store) p (needed_by m (world_of_store x.store)
    (objects_of x.store) p call) (fed_by m call) c.args.at.now in
    placed_moved x y p (begun (flight_of x.calls.items p)) r
    (moved_by x y p c.index_mut-flight.result.now b.new.flight.chain r.sixteen c.requires.at.process
    fl calls b.ensures.elsewhere b.ensures.in_place.placed b.ensures.in_place.inside
    b.ensures.in_place.loaded refl refl refl)
    (ap (λ (chain : Chain). call_of y.store y.locks chain p) (chain_by x y p
    c.index_mut-flight.result.now b.new.flight.chain r.sixteen c.requires.at.process fl calls)
    ∙ b.ensures.value ∙ ap begun fl)

pub returns-clause-moved : goal.returns-clause-moved
returns-clause-moved g c =
    let p = c.args.p in
    let x = c.args.running.now in
    let b = c.begin_graft in
    let y : Running g.row.C.Denot g.row.B.Denot g.row.C-Meaning.Denot _ =
    record {
      store = b.new.store;
      clock = x.clock;
      images = x.images;
      locks = b.new.locks;
      calls = with_item x.calls p b.new.flight;
      order = x.order;
      table = x.table;
    } in
    let r = c.requires.at.running in
    let fl : c.index_mut-flight.result.now ≡ flight_of x.calls.items p =
    fetched x.calls.items p c.index_mut-flight.result.now r.sixteen c.requires.at.process
    c.index_mut-flight.ensures.value in
    let calls : y.calls.items ≡ slice_set x.calls.items p
    (record { call = c.index_mut-flight.result.now.call; chain = b.new.flight.chain }) =
    ap (λ call. slice_set x.calls.items p (record { call = call; chain = b.new.flight.chain })) b.ensures.same_call in
    moved_by x y p c.index_mut-flight.result.now b.new.flight.chain r.sixteen c.requires.at.process
    fl calls b.ensures.elsewhere b.ensures.in_place.placed b.ensures.in_place.inside
    b.ensures.in_place.loaded refl refl refl
