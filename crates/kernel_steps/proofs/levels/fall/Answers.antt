use Rattle.std.proofs.Common.{◌≡◌, ◌<◌, ap, sym, subst, refl}
use Rattle.fixed_room.specs.Held.{with_item}
use Rattle.kernel_model.specs.Levels.{Config, Outcome, drop_level}
use Rattle.call_pieces.specs.Stores.{world_of_store, objects_of}
use Rattle.graft_levels.specs.Slots.{table_of}
use Rattle.graft_levels.specs.Calls.{AreInside}
use Rattle.placed_laws.specs.Placed.{Placed, placed_config}
use Rattle.placed_laws.specs.Undone.{LeadsToStoreBelow}
use Rattle.placed_laws.proofs.UndoLaws.{drops_lead_to_store_below}
use Rattle.kernel_steps.proofs.PartLemmas.{levels_many}
use Rattle.running_kernel.specs.declared.running.Flight.{Flight}
use Rattle.running_kernel.specs.declared.running.Running.{Running}
use Rattle.running_kernel.specs.Views.{placed_of, flight_of}
use Rattle.kernel_steps.proofs.MoveLemmas.{fetched, moved_by, chain_by, came_by, said_by, config_by}
use Rattle.kernel_steps.proofs.levels.fall.Goals as goal

pub returns-clause-said : goal.returns-clause-said
returns-clause-said g c =
    let x = c.args.running.now in
    let y : Running g.row.C.Denot g.row.B.Denot g.row.C-Meaning.Denot _ = record {
      store = c.drop_level.new.store;
      clock = x.clock;
      images = x.images;
      locks = c.drop_level.new.locks;
      calls = with_item x.calls c.args.p
          (record { call = c.index_mut-flight.result.now.call; chain = c.drop_level.new.self });
      order = x.order;
      table = x.table;
    } in
    let r = c.requires.at.running in
    let fl : c.index_mut-flight.result.now ≡ flight_of x.calls.items c.args.p =
    fetched x.calls.items c.args.p c.index_mut-flight.result.now r.sixteen c.requires.at.process
    c.index_mut-flight.ensures.value in
    let f : Config → Outcome =
    λ (e : Config). drop_level (world_of_store x.store) e.now e.levels c.args.d c.args.cause in
    let o : Outcome = f (placed_config (placed_of x) c.args.p) in
    said_by o _ _ (came_by x c.args.p c.index_mut-flight.result.now f c.drop_level.result _ fl
    c.drop_level.ensures.step)

pub returns-clause-config : goal.returns-clause-config
returns-clause-config g c =
    let x = c.args.running.now in
    let y : Running g.row.C.Denot g.row.B.Denot g.row.C-Meaning.Denot _ = record {
      store = c.drop_level.new.store;
      clock = x.clock;
      images = x.images;
      locks = c.drop_level.new.locks;
      calls = with_item x.calls c.args.p
          (record { call = c.index_mut-flight.result.now.call; chain = c.drop_level.new.self });
      order = x.order;
      table = x.table;
    } in
    let r = c.requires.at.running in
    let fl : c.index_mut-flight.result.now ≡ flight_of x.calls.items c.args.p =
    fetched x.calls.items c.args.p c.index_mut-flight.result.now r.sixteen c.requires.at.process
    c.index_mut-flight.ensures.value in
    let f : Config → Outcome =
    λ (e : Config). drop_level (world_of_store x.store) e.now e.levels c.args.d c.args.cause in
    let o : Outcome = f (placed_config (placed_of x) c.args.p) in
    config_by x y c.args.p c.drop_level.new.self o c.drop_level.result r
    (moved_by x y c.args.p c.index_mut-flight.result.now c.drop_level.new.self
    r.sixteen c.requires.at.process fl refl c.drop_level.ensures.elsewhere
    c.drop_level.ensures.placed (c.drop_level.ensures.inside (table_of x.images)
    (subst (λ (f : Flight). AreInside (table_of x.images) (objects_of x.store).accounts
    c.args.p f.chain.levels) (sym fl) (r.inside c.args.p c.requires.at.process)))
    (c.drop_level.ensures.loaded (table_of x.images) r.loaded) refl refl refl)
    (chain_by x y c.args.p c.index_mut-flight.result.now c.drop_level.new.self r.sixteen c.requires.at.process fl refl)
    (came_by x c.args.p c.index_mut-flight.result.now f c.drop_level.result _ fl c.drop_level.ensures.step)

pub returns-clause-moved : goal.returns-clause-moved
returns-clause-moved g c =
    let x = c.args.running.now in
    let y : Running g.row.C.Denot g.row.B.Denot g.row.C-Meaning.Denot _ = record {
      store = c.drop_level.new.store;
      clock = x.clock;
      images = x.images;
      locks = c.drop_level.new.locks;
      calls = with_item x.calls c.args.p
          (record { call = c.index_mut-flight.result.now.call; chain = c.drop_level.new.self });
      order = x.order;
      table = x.table;
    } in
    let r = c.requires.at.running in
    let fl : c.index_mut-flight.result.now ≡ flight_of x.calls.items c.args.p =
    fetched x.calls.items c.args.p c.index_mut-flight.result.now r.sixteen c.requires.at.process
    c.index_mut-flight.ensures.value in
    let f : Config → Outcome =
    λ (e : Config). drop_level (world_of_store x.store) e.now e.levels c.args.d c.args.cause in
    let o : Outcome = f (placed_config (placed_of x) c.args.p) in
    moved_by x y c.args.p c.index_mut-flight.result.now c.drop_level.new.self
    r.sixteen c.requires.at.process fl refl c.drop_level.ensures.elsewhere
    c.drop_level.ensures.placed (c.drop_level.ensures.inside (table_of x.images)
    (subst (λ (f : Flight). AreInside (table_of x.images) (objects_of x.store).accounts
    c.args.p f.chain.levels) (sym fl) (r.inside c.args.p c.requires.at.process)))
    (c.drop_level.ensures.loaded (table_of x.images) r.loaded) refl refl refl

pub returns-clause-below : goal.returns-clause-below
returns-clause-below g c =
    let m = g.C.Meaning.Rules.meaning in
    let x = placed_of c.args.running.now in
    let left = ap (λ (y : Placed). y.objects) (returns-clause-config g c) in
    subst (LeadsToStoreBelow m x c.args.p c.args.d) (sym left)
    ((drops_lead_to_store_below m g.C.Meaning.Rules.laws) x c.args.p c.args.d c.args.cause
    (subst (λ n. c.args.d < n) (sym (levels_many c.args.running.now c.args.p)) c.requires.level))
