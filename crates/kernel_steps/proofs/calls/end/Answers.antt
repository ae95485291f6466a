use Rattle.std.proofs.Common.{ap, sym, subst, ◌∙◌, ◌++◌, ◌∷◌, [], refl, arith, None}
use Rattle.graft_levels.specs.declared.Chain.{Chain}
use Rattle.graft_levels.specs.Slots.{table_of}
use Rattle.graft_levels.specs.Calls.{IsPlaced, AreInside}
use Rattle.call_pieces.specs.Stores.{objects_of}
use Rattle.running_kernel.specs.Owned.{AreOwned}
use Rattle.running_kernel.specs.Orders.{counts_within, are_processes, are_once, numbers_of}
use Rattle.kernel_steps.proofs.OnceLemmas.{once_less}
use Rattle.running_kernel.proofs.OrderLemmas.{processes_less, counts_less}
use Rattle.kernel_steps.proofs.CallLemmas.{still_sixteen, chains_stay, callers_set}
use Rattle.kernel_steps.proofs.RunningLemmas.{call_ended, within_flights}
use Rattle.kernel_model.specs.Bare.{note_with}
use Rattle.kernel_steps.proofs.calls.end.Goals as goal

pub returns : goal.returns
returns g c =
    record {
      value =
          let x = c.args.running.now in (
            λ notes blocks io. call_ended x c.args.p
                (note_with c.args.note []) c.end_call.new.flights.items c.leave.new.self notes
                (notes ++ (note_with c.args.note []) ∷ [])
                (within_flights x.calls.items c.args.p c.requires.running.sixteen
                c.requires.process) c.end_call.ensures c.leave.ensures refl blocks io,
            c.push.ensures,
          );
      running =
          let x = c.args.running.now in
          let r = c.requires.running in
          let small = within_flights x.calls.items c.args.p r.sixteen c.requires.process in
          let same = chains_stay x.calls.items c.args.p None c.end_call.new.flights.items small c.end_call.ensures in
          record {
            sixteen =
                still_sixteen x.calls.items c.args.p None c.end_call.new.flights.items
                c.end_call.ensures ∙ r.sixteen;
            callers =
                callers_set x.calls.items c.args.p None c.end_call.new.flights.items small
                c.end_call.ensures r.callers (λ e is. grind (arith, is));
            placed =
                λ q h. subst (λ (chain : Chain). IsPlaced x.store x.locks q chain.levels chain.undo)
                (sym (same q)) (r.placed q h);
            inside =
                λ q h. subst (λ (chain : Chain). AreInside (table_of x.images)
                (objects_of x.store).accounts q chain.levels) (sym (same q)) (r.inside q h);
            counts = ap (counts_within x.clock) c.leave.ensures ∙ counts_less x.clock c.args.p x.order r.counts;
            order = ap are_processes c.leave.ensures ∙ processes_less c.args.p x.order r.order;
            once = ap (λ ws. are_once (numbers_of ws)) c.leave.ensures ∙ once_less c.args.p x.order r.once;
            loaded = r.loaded;
            owner = r.owner;
            own =
                λ q h. subst (λ (chain : Chain). AreOwned (r.owner q) chain.levels chain.undo)
                (sym (same q)) (r.own q h);
          };
    }
