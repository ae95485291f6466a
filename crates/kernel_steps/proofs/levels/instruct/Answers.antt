use Rattle.std.proofs.Common.{◌≡◌, refl}
use Rattle.fixed_room.specs.Held.{with_item}
use Rattle.kernel_model.specs.GraftStep.{micro}
use Rattle.kernel_model.specs.Levels.{Config, Outcome}
use Rattle.call_pieces.specs.Stores.{world_of_store}
use Rattle.graft_levels.specs.Slots.{table_of}
use Rattle.placed_laws.specs.Placed.{placed_config}
use Rattle.running_kernel.specs.declared.running.Running.{Running}
use Rattle.running_kernel.specs.Views.{placed_of, flight_of}
use Rattle.kernel_steps.proofs.MoveLemmas.{fetched, in_place_of, moved_by, chain_by, came_by}
use Rattle.kernel_steps.proofs.MoveLemmas.{said_by, config_by, answer_by}
use Rattle.kernel_steps.proofs.levels.instruct.Goals as goal

pub returns-clause-said : goal.returns-clause-said
returns-clause-said g c =
    let x = c.args.running.now in
    let y : Running g.row.C.Denot g.row.B.Denot g.row.C-Meaning.Denot _ = record {
      store = c.instruction.new.store;
      clock = x.clock;
      images = x.images;
      locks = c.instruction.new.locks;
      calls = with_item x.calls c.args.p
          (record { call = c.index_mut-flight.result.now.call; chain = c.instruction.new.chain });
      order = x.order;
      table = x.table;
    } in
    let r = c.requires.running in
    let fl : c.index_mut-flight.result.now ≡ flight_of x.calls.items c.args.p =
    fetched x.calls.items c.args.p c.index_mut-flight.result.now r.sixteen c.requires.process
    c.index_mut-flight.ensures.value in
    let f : Config → Outcome = λ (e : Config). micro (world_of_store x.store) (table_of x.images) c.args.p e in
    let o : Outcome = f (placed_config (placed_of x) c.args.p) in
    said_by o _ _ (came_by x c.args.p c.index_mut-flight.result.now f c.instruction.result _ fl
    c.instruction.ensures.step)

pub returns-clause-config : goal.returns-clause-config
returns-clause-config g c =
    let x = c.args.running.now in
    let y : Running g.row.C.Denot g.row.B.Denot g.row.C-Meaning.Denot _ = record {
      store = c.instruction.new.store;
      clock = x.clock;
      images = x.images;
      locks = c.instruction.new.locks;
      calls = with_item x.calls c.args.p
          (record { call = c.index_mut-flight.result.now.call; chain = c.instruction.new.chain });
      order = x.order;
      table = x.table;
    } in
    let r = c.requires.running in
    let fl : c.index_mut-flight.result.now ≡ flight_of x.calls.items c.args.p =
    fetched x.calls.items c.args.p c.index_mut-flight.result.now r.sixteen c.requires.process
    c.index_mut-flight.ensures.value in
    let f : Config → Outcome = λ (e : Config). micro (world_of_store x.store) (table_of x.images) c.args.p e in
    let o : Outcome = f (placed_config (placed_of x) c.args.p) in
    config_by x y c.args.p c.instruction.new.chain o c.instruction.result r
    (moved_by x y c.args.p c.index_mut-flight.result.now c.instruction.new.chain
    r.sixteen c.requires.process fl refl c.instruction.ensures.elsewhere
    c.instruction.ensures.in_place.placed c.instruction.ensures.in_place.inside
    c.instruction.ensures.in_place.loaded refl refl refl)
    (chain_by x y c.args.p c.index_mut-flight.result.now c.instruction.new.chain r.sixteen c.requires.process fl refl)
    (came_by x c.args.p c.index_mut-flight.result.now f c.instruction.result _ fl c.instruction.ensures.step)

pub returns-clause-answer : goal.returns-clause-answer
returns-clause-answer g c =
    let x = c.args.running.now in
    let fl : c.index_mut-flight.result.now ≡ flight_of x.calls.items c.args.p =
    fetched x.calls.items c.args.p c.index_mut-flight.result.now c.requires.running.sixteen
    c.requires.process c.index_mut-flight.ensures.value in
    answer_by x c.args.p c.index_mut-flight.result.now c.instruction.result
    c.instruction.new.store.ram fl c.instruction.ensures.answer

pub returns-clause-moved : goal.returns-clause-moved
returns-clause-moved g c =
    let x = c.args.running.now in
    let y : Running g.row.C.Denot g.row.B.Denot g.row.C-Meaning.Denot _ = record {
      store = c.instruction.new.store;
      clock = x.clock;
      images = x.images;
      locks = c.instruction.new.locks;
      calls = with_item x.calls c.args.p
          (record { call = c.index_mut-flight.result.now.call; chain = c.instruction.new.chain });
      order = x.order;
      table = x.table;
    } in
    let r = c.requires.running in
    let fl : c.index_mut-flight.result.now ≡ flight_of x.calls.items c.args.p =
    fetched x.calls.items c.args.p c.index_mut-flight.result.now r.sixteen c.requires.process
    c.index_mut-flight.ensures.value in
    let f : Config → Outcome = λ (e : Config). micro (world_of_store x.store) (table_of x.images) c.args.p e in
    let o : Outcome = f (placed_config (placed_of x) c.args.p) in
    moved_by x y c.args.p c.index_mut-flight.result.now c.instruction.new.chain
    r.sixteen c.requires.process fl refl c.instruction.ensures.elsewhere
    c.instruction.ensures.in_place.placed c.instruction.ensures.in_place.inside
    c.instruction.ensures.in_place.loaded refl refl refl

pub instruction-requires : goal.instruction-requires
instruction-requires g c =
    let x = c.args.running.now in
    let r = c.requires.running in
    record {
      in_place = in_place_of x c.args.p c.index_mut-flight.result.now r c.requires.process
          (fetched x.calls.items c.args.p c.index_mut-flight.result.now r.sixteen c.requires.process
          c.index_mut-flight.ensures.value);
    }
