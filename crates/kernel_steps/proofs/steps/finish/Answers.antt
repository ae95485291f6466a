use Rattle.std.proofs.Common.{◌≡◌, ◌∙◌, ap, sym, subst, refl}
use Rattle.fixed_room.specs.Held.{with_item}
use Rattle.kernel_model.specs.Laws.{IsReady}
use Rattle.call_pieces.specs.Stores.{world_of_store, objects_of}
use Rattle.graft_levels.specs.Slots.{table_of}
use Rattle.call_pieces.specs.Works.{answer_seen, stage_of}
use Rattle.running_kernel.specs.declared.running.Flight.{Flight}
use Rattle.running_kernel.specs.declared.running.Running.{Running}
use Rattle.std.specs.Prelude.{option_map}
use Rattle.kernel_steps.specs.Moments.{kernel_moment}
use Rattle.kernel_steps.specs.Refines.{PieceDone}
use Rattle.running_kernel.specs.Views.{flight_of, call_in_place}
use Rattle.kernel_steps.proofs.CallLemmas.{with_call_of}
use Rattle.kernel_steps.proofs.MoveLemmas.{fetched}
use Rattle.kernel_steps.proofs.StepLemmas.{call_there, finish_done}
use Rattle.kernel_steps.proofs.steps.finish.Goals as goal

pub do_piece-requires-clause-ready : goal.do_piece-requires-clause-ready
do_piece-requires-clause-ready g c =
    λ f is.
    let x = c.args.running.now in
    let alone = c.requires.alone in
    let fl : c.index_mut-flight.result.now ≡ flight_of x.calls.items c.args.p =
    fetched x.calls.items c.args.p c.index_mut-flight.result.now alone.sixteen
    alone.placed.process c.index_mut-flight.ensures.value in
    let there = sym (ap (λ (l : Flight). l.call) fl) ∙ is in (
      table_of x.images,
      subst (λ q. IsReady g.C.Meaning.Rules.meaning (world_of_store x.store) (table_of x.images)
          (objects_of x.store) q (stage_of f.work) (answer_seen x.store.ram q c.args.answer))
          (sym (alone.caller_is f there)) (c.requires.answer.ready f there),
    )

pub returns : goal.returns
returns g c =
    λ pc is.
    let a = c.args in
    let x = a.running.now in
    let alone = c.requires.alone in
    let fl : c.index_mut-flight.result.now ≡ flight_of x.calls.items a.p =
    fetched x.calls.items a.p c.index_mut-flight.result.now alone.sixteen alone.placed.process
    c.index_mut-flight.ensures.value in
    let y : Running g.row.C.Denot g.row.B.Denot g.row.C-Meaning.Denot _ = record {
      store = c.do_piece.new.store;
      clock = x.clock;
      images = x.images;
      locks = x.locks;
      calls = with_item x.calls a.p
          (record { call = c.do_piece.new.slot; chain = c.index_mut-flight.result.now.chain });
      order = x.order;
      table = x.table;
    } in
    let t = call_there (flight_of x.calls.items a.p).call pc is in
    let there = ap (λ (l : Flight). l.call) fl ∙ t.is in
    let m = g.C.Meaning.Rules.meaning in
    let d = g.D.Disk.seen a.disk.now in
    let e = g.D.Disk.seen c.do_piece.new.disk in
    finish_done m x y a.p pc t.flight c.do_piece.new.slot (answer_seen x.store.ram a.p a.answer)
    a.trace.now.notes c.do_piece.new.trace.notes d e
    alone c.requires.answer.none alone.placed.process t.is t.stands
    (ap (λ (l : Flight). with_call_of x.calls.items a.p c.do_piece.new.slot l) fl)
    refl refl refl refl c.do_piece.ensures.store.world c.do_piece.ensures.store.memory
    (λ h left. c.do_piece.ensures.caller t.flight h there left)
    (subst (λ q. PieceDone m (world_of_store x.store) t.flight.work.caller (call_in_place t.flight)
    (option_map call_in_place c.do_piece.new.slot) (answer_seen x.store.ram q a.answer)
    (kernel_moment (objects_of x.store) a.trace.now.notes d)
    (kernel_moment (objects_of y.store) c.do_piece.new.trace.notes e))
    (alone.caller_is t.flight t.is) (c.do_piece.ensures.done t.flight there))
