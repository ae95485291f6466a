use Rattle.std.proofs.Common.{subst, ap, sym, ◌≡◌, ◌∙◌, ◌+◌, suc, ◌++◌, ◌∷◌, [], arith}
use Rattle.kernel_model.specs.declared.Note.TheVariants.{Ticked}
use Rattle.running_kernel.specs.Orders.{are_processes, are_once, numbers_of}
use Rattle.kernel_steps.proofs.OnceLemmas.{same_later}
use Rattle.running_kernel.proofs.OrderLemmas.{processes_later, rises}
use Rattle.kernel_steps.proofs.RunningLemmas.{ticked_on}
use Rattle.kernel_steps.proofs.calls.tick.Goals as goal
use Rattle.kernel_steps.specs.Refines.{Adds}

pub returns : goal.returns
returns g c =
    record {
      value =
          let x = c.args.running.now in
          let next : x.clock + 1 ≡ suc x.clock = omega arith in (
            λ notes blocks io. ticked_on x c.args.number (x.clock + 1) c.count_up.new.self notes
                (notes ++ Ticked c.args.number (suc x.clock) ∷ [])
                next c.requires.running.counts c.requires.clock c.count_up.ensures
                (ap (λ n. notes ++ Ticked c.args.number n ∷ []) (sym next)) blocks io,
            subst (λ n. Adds (Ticked c.args.number n ∷ []) c.args.notes.now c.push.new.self) next c.push.ensures,
          );
      running =
          let x = c.args.running.now in
          let r = c.requires.running in
          record {
            sixteen = r.sixteen;
            callers = r.callers;
            placed = r.placed;
            inside = r.inside;
            counts = rises x.clock x.order c.count_up.new.self c.count_up.ensures r.counts;
            order = ap are_processes c.count_up.ensures ∙ processes_later x.order r.order;
            once = ap (λ ws. are_once (numbers_of ws)) c.count_up.ensures ∙ ap are_once (same_later x.order) ∙ r.once;
            loaded = r.loaded;
            owner = r.owner;
            own = r.own;
          };
    }
