use Rattle.std.proofs.Common.{◌≡◌, [], ◌∷◌, ◌++◌, refl, sym, subst, ap, ◌∙◌, arith, Some, None}
use Rattle.graft_levels.specs.declared.Chain.{Chain}
use Rattle.graft_levels.specs.Slots.{table_of}
use Rattle.graft_levels.specs.Calls.{IsPlaced, AreInside}
use Rattle.call_pieces.specs.Stores.{objects_of}
use Rattle.call_pieces.specs.Works.{stage_of}
use Rattle.running_kernel.specs.declared.running.InFlight.{InFlight}
use Rattle.running_kernel.specs.Orders.{joined}
use Rattle.running_kernel.specs.Owned.{AreOwned}
use Rattle.kernel_steps.proofs.OnceLemmas.{once_joined}
use Rattle.running_kernel.proofs.OrderLemmas.{processes_joined, counts_joined}
use Rattle.kernel_steps.proofs.CallLemmas.{with_call, still_sixteen, chains_stay, callers_set}
use Rattle.kernel_steps.proofs.RunningLemmas.{call_begun, call_kept, within_flights}
use Rattle.kernel_steps.proofs.calls.begin_call.Goals as goal

pub begin_flight-requires-clause-process : goal.begin_flight-requires-clause-process
begin_flight-requires-clause-process g c =
    within_flights c.args.running.now.calls.items c.args.p c.requires.at.running.sixteen
    c.requires.at.process

pub returns-in-Err : goal.returns-in-Err
returns-in-Err g c =
    let x = c.args.running.now in
    let r = c.requires.at.running in
    let e = c.in-Err.ensures in
    let new = c.begin_flight.new.flights.items in
    let small = within_flights x.calls.items c.args.p r.sixteen c.requires.at.process in
    let set : new ≡ with_call x.calls.items c.args.p None = e.flights
    ∙ ap (with_call x.calls.items c.args.p) e.says.none in
    let same = chains_stay x.calls.items c.args.p None new small set in
    record {
      refused = e.says.refused;
      placed = call_kept x c.args.p new small set c.requires.none;
      running = record {
        sixteen = still_sixteen x.calls.items c.args.p None new set ∙ r.sixteen;
        callers = callers_set x.calls.items c.args.p None new small set r.callers (λ f is. grind (arith, is));
        placed =
            λ q h. subst (λ (chain : Chain). IsPlaced x.store x.locks q chain.levels chain.undo)
            (sym (same q)) (r.placed q h);
        inside =
            λ q h. subst (λ (chain : Chain). AreInside (table_of x.images)
            (objects_of x.store).accounts q chain.levels) (sym (same q)) (r.inside q h);
        counts = r.counts;
        order = r.order;
        once = r.once;
        loaded = r.loaded;
        owner = r.owner;
        own = λ q h. subst (λ (chain : Chain). AreOwned (r.owner q) chain.levels chain.undo) (sym (same q)) (r.own q h);
      };
    }

pub returns-in-Ok : goal.returns-in-Ok
returns-in-Ok g c =
    let x = c.args.running.now in
    let r = c.requires.at.running in
    let e = c.in-Ok.ensures in
    let s = e.says in
    let new = c.begin_flight.new.flights.items in
    let f : InFlight = record { number = c.args.request.number; work = s.work } in
    let small = within_flights x.calls.items c.args.p r.sixteen c.requires.at.process in
    let set : new ≡ with_call x.calls.items c.args.p (Some f) = e.flights
    ∙ ap (with_call x.calls.items c.args.p) s.stands in
    let same = chains_stay x.calls.items c.args.p (Some f) new small set in
    let caller_is = s.caller_is in
    record {
      first = stage_of s.work;
      granted = s.granted;
      value = λ notes blocks io.
          call_begun x c.args.p f new (joined c.args.p) (x.order ++ joined c.args.p ∷ []) small set
          refl refl blocks notes io;
      running = record {
        sixteen = still_sixteen x.calls.items c.args.p (Some f) new set ∙ r.sixteen;
        callers =
            callers_set x.calls.items c.args.p (Some f) new small set r.callers
            (λ e is. grind (arith, is, caller_is));
        placed =
            λ q h. subst (λ (chain : Chain). IsPlaced x.store x.locks q chain.levels chain.undo)
            (sym (same q)) (r.placed q h);
        inside =
            λ q h. subst (λ (chain : Chain). AreInside (table_of x.images)
            (objects_of x.store).accounts q chain.levels) (sym (same q)) (r.inside q h);
        counts =
            counts_joined x.clock c.args.p x.order (joined c.args.p)
            (x.order ++ joined c.args.p ∷ []) refl refl r.counts;
        order =
            processes_joined c.args.p x.order (joined c.args.p)
            (x.order ++ joined c.args.p ∷ []) refl refl c.requires.at.process r.order;
        once =
            once_joined c.args.p x.order (joined c.args.p) (x.order ++ joined c.args.p ∷ []) refl
            refl r.once c.requires.new;
        loaded = r.loaded;
        owner = r.owner;
        own = λ q h. subst (λ (chain : Chain). AreOwned (r.owner q) chain.levels chain.undo) (sym (same q)) (r.own q h);
      };
    }
