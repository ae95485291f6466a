-- A kernel in which no call is in flight.
use Rattle.std.proofs.Common.{◌≡◌, ℕ, List, [], refl, ap, sym, arith, subst}
use Rattle.std.specs.Prelude.{replicate}
use Rattle.std.proofs.lemmas.Grind.{common_steps}
use Rattle.kernel_model.specs.Sound.{ImagesAreLoaded}
use Rattle.kernel_model.specs.Locks.{no_locks}
use Rattle.lock_table.specs.Masks.{held}
use Rattle.call_pieces.specs.Stores.{objects_of}
use Rattle.graft_levels.specs.declared.Chain.{Chain}
use Rattle.graft_levels.specs.Slots.{table_of}
use Rattle.graft_levels.specs.Calls.{IsPlaced, AreInside}
use Rattle.running_kernel.specs.declared.running.Flight.{Flight}
use Rattle.running_kernel.specs.declared.running.Running.{Running}
use Rattle.running_kernel.specs.Views.{flight_of, no_flight, chain_of, IsRunning}
use Rattle.running_kernel.specs.Owned.{AreOwned}
use Rattle.running_kernel.specs.Orders.{counts_within, are_processes, are_once, numbers_of}

-- each process has nothing in flight
pub none_of_sixteen : (fs : List Flight) (n p : ℕ) → fs ≡ replicate n no_flight → flight_of fs p ≡ no_flight
none_of_sixteen fs n p is = grind (arith, common_steps, is)

pub just_begun : {C B M : Type 0} {P : _} (x : Running C B M P) →
    x.calls.items ≡ replicate 16 no_flight → held x.locks ≡ no_locks → x.order ≡ [] →
    ImagesAreLoaded (table_of x.images) (objects_of x.store).accounts → IsRunning x
just_begun x calls free order loaded =
    let none : (p : ℕ) → chain_of x p ≡ record { levels = []; undo = [] } =
    λ p. ap (λ (f : Flight). f.chain) (none_of_sixteen x.calls.items 16 p calls) in
    record {
      sixteen = grind (arith, common_steps, calls);
      callers = λ p f is. grind (arith, is, none_of_sixteen x.calls.items 16 p calls);
      placed = λ p h. subst (λ (chain : Chain). IsPlaced x.store x.locks p chain.levels chain.undo) (sym (none p))
          (record {
            process = h;
            few = omega arith;
            as_many = refl;
            unheld = λ d o le. ap (λ t. t p d o) free;
            levels = tt;
            undoable = tt;
          });
      inside =
          λ p h. subst (λ (chain : Chain). AreInside (table_of x.images)
          (objects_of x.store).accounts p chain.levels) (sym (none p)) tt;
      counts = ap (counts_within x.clock) order;
      order = ap are_processes order;
      once = ap (λ ws. are_once (numbers_of ws)) order;
      loaded = loaded;
      owner = λ p. 0;
      own = λ p h. subst (λ (chain : Chain). AreOwned 0 chain.levels chain.undo) (sym (none p)) tt;
    }
