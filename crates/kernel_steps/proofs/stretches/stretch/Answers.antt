use Rattle.std.proofs.Common.{◌≡◌, ◌<◌, length, refl, sym, subst}
use Rattle.fixed_room.specs.Held.{with_item}
use Rattle.running_kernel.specs.declared.running.Flight.{Flight}
use Rattle.running_kernel.specs.declared.running.Running.{Running}
use Rattle.running_kernel.specs.Views.{placed_of, flight_of}
use Rattle.placed_laws.proofs.Laws.{same_shown, stretches}
use Rattle.kernel_steps.proofs.MoveLemmas.{fetched, in_place_of, moved_by, chain_by}
use Rattle.kernel_steps.proofs.StretchLemmas.{gone_by, some_chain, is_stretched, runs_stretched, stood_stretched}
use Rattle.kernel_steps.proofs.stretches.stretch.Goals as goal

pub stretch-requires : goal.stretch-requires
stretch-requires g c =
    let x = c.args.running.now in
    let r = c.requires.at.running in
    let fl : c.index_mut-flight.result.now ≡ flight_of x.calls.items c.args.p =
    fetched x.calls.items c.args.p c.index_mut-flight.result.now r.sixteen c.requires.at.process
    c.index_mut-flight.ensures.value in
    record {
      in_place = in_place_of x c.args.p c.index_mut-flight.result.now r c.requires.at.process fl;
      some = subst (λ (f : Flight). 0 < length f.chain.levels) (sym fl) (some_chain x c.args.p c.requires.level);
    }

pub returns-clause-is : goal.returns-clause-is
returns-clause-is g c =
    let x = c.args.running.now in
    let y : Running g.row.C.Denot g.row.B.Denot g.row.C-Meaning.Denot _ = record {
      store = c.stretch.new.store;
      clock = x.clock;
      images = x.images;
      locks = x.locks;
      calls = with_item x.calls c.args.p
          (record { call = c.index_mut-flight.result.now.call; chain = c.stretch.new.chain });
      order = x.order;
      table = x.table;
    } in
    let r = c.requires.at.running in
    let fl : c.index_mut-flight.result.now ≡ flight_of x.calls.items c.args.p =
    fetched x.calls.items c.args.p c.index_mut-flight.result.now r.sixteen c.requires.at.process
    c.index_mut-flight.ensures.value in
    let e = c.stretch.ensures in
    let moved = moved_by x y c.args.p c.index_mut-flight.result.now c.stretch.new.chain
    r.sixteen c.requires.at.process fl refl e.elsewhere e.in_place.placed e.in_place.inside
    e.in_place.loaded refl refl refl in
    let gone = gone_by x y c.args.p c.stretch.result c.index_mut-flight.result.now
    c.stretch.new.chain fl (chain_by x y c.args.p c.index_mut-flight.result.now
    c.stretch.new.chain r.sixteen c.requires.at.process fl refl) e.went in
    is_stretched x y c.args.p c.stretch.result r c.requires.at.process moved gone refl e.others

pub returns-clause-on : goal.returns-clause-on
returns-clause-on g c =
    let m = g.C.Meaning.Rules.meaning in
    let x = c.args.running.now in
    let y : Running g.row.C.Denot g.row.B.Denot g.row.C-Meaning.Denot _ = record {
      store = c.stretch.new.store;
      clock = x.clock;
      images = x.images;
      locks = x.locks;
      calls = with_item x.calls c.args.p
          (record { call = c.index_mut-flight.result.now.call; chain = c.stretch.new.chain });
      order = x.order;
      table = x.table;
    } in
    let r = c.requires.at.running in
    let fl : c.index_mut-flight.result.now ≡ flight_of x.calls.items c.args.p =
    fetched x.calls.items c.args.p c.index_mut-flight.result.now r.sixteen c.requires.at.process
    c.index_mut-flight.ensures.value in
    let e = c.stretch.ensures in
    let moved = moved_by x y c.args.p c.index_mut-flight.result.now c.stretch.new.chain
    r.sixteen c.requires.at.process fl refl e.elsewhere e.in_place.placed e.in_place.inside
    e.in_place.loaded refl refl refl in
    let gone = gone_by x y c.args.p c.stretch.result c.index_mut-flight.result.now
    c.stretch.new.chain fl (chain_by x y c.args.p c.index_mut-flight.result.now
    c.stretch.new.chain r.sixteen c.requires.at.process fl refl) e.went in
    record {
      running = runs_stretched x y c.args.p c.stretch.result r c.requires.at.process moved gone refl e.others;
      abstraction =
          stood_stretched m (same_shown m g.C.Meaning.Rules.laws)
          (stretches m g.C.Meaning.Rules.laws) (placed_of x) (placed_of y) c.args.p c.stretch.result
          c.requires.at.abstraction c.requires.level c.requires.away
          (is_stretched x y c.args.p c.stretch.result r c.requires.at.process moved gone refl e.others);
      world = c.stretch.ensures.elsewhere.world;
      clock = refl;
    }
