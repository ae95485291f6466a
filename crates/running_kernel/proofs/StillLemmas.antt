-- A call that waits still for the user lock that it waited for when the kernel last rested.
use Rattle.std.proofs.Common.{◌≡◌, ℕ, ◌<◌, ◌==◌, ◌&&◌, Bool, true, false, cond, List, [], ◌∷◌, length}
use Rattle.std.proofs.Common.{Option, Some, None, arith, refl, ap, subst, sym, ◌∙◌}
use Rattle.std.specs.Prelude.{Contains, is_some, option_map}
use Rattle.std.proofs.lemmas.Bool.Decides.{nat_tests}
use Rattle.kernel_data.specs.declared.Need.{Need}
use Rattle.kernel_data.specs.declared.Object.{Object}
use Rattle.kernel_data.specs.declared.Object.TheVariants.{Lock}
use Rattle.kernel_data.specs.World.{World}
use Rattle.kernel_data.specs.Objects.{Objects}
use Rattle.kernel_model.specs.Blocking.{same_blocker}
use Rattle.kernel_model.specs.GraftStep.{lock_user}
use Rattle.kernel_model.specs.Kernel.{Blocker, Waiter}
use Rattle.kernel_model.specs.Laws.{Laws}
use Rattle.kernel_model.specs.Locks.{Hindrance, LockTable, no_locks, first_hindrance, user_hindrance}
use Rattle.kernel_model.specs.Meaning.{Meaning}
use Rattle.kernel_model.specs.Settle.{entry_with}
use Rattle.kernel_data.specs.SameObject.{same_object_self}
use Rattle.lock_table.specs.Masks.{held}
use Rattle.call_pieces.specs.Stores.{world_of_store, objects_of}
use Rattle.call_pieces.specs.Taking.{taking}
use Rattle.call_pieces.specs.Works.{stage_of}
use Rattle.graft_levels.specs.Slots.{table_of}
use Rattle.placed_laws.specs.Placed.{placed_blocker_from, placed_holds, placed_levels, placed_needs}
use Rattle.placed_laws.specs.Soundness.{SoundInPlace}
use Rattle.running_kernel.specs.declared.order.Blocking.{Blocking}
use Rattle.running_kernel.specs.declared.order.Waiting.{Waiting}
use Rattle.running_kernel.specs.declared.running.InFlight.{InFlight}
use Rattle.running_kernel.specs.declared.running.Running.{Running}
use Rattle.running_kernel.specs.Hindered.{TakesAlone}
use Rattle.running_kernel.specs.Orders.{blocker_of, entry_of}
use Rattle.running_kernel.specs.Rests.{KeepsBlocker}
use Rattle.running_kernel.specs.Views.{placed_of, flight_of, chain_of, IsRunning, HasAbstraction}
use Rattle.running_kernel.proofs.FreeLemmas.{or_else, user_first}
use Rattle.running_kernel.proofs.HinderLemmas.{own_user, piece_needs, stands}
use Rattle.running_kernel.proofs.ViewLemmas.{holds_in_place}

-- ---- what it needs

-- a call in no graft that takes a user lock and needs nothing else
pub takes_it : {C B M : Type 0} {P : _} (m : Meaning) → SoundInPlace m → Laws m →
    (x : Running C B M P) (p : ℕ) (f : InFlight) (t u : ℕ) → IsRunning x → HasAbstraction m (placed_of x) →
    (flight_of x.calls.items p).call ≡ Some f → length (chain_of x p).levels ≡ 0 →
    ((v : World) (s : Objects) (q : ℕ) → m.need v s q (stage_of f.work) ≡ taking t ∷ []) → t ≡ u →
    TakesAlone m x p u
takes_it m sound laws x p f t u running abstraction there none needs same =
    let v = world_of_store x.store in
    let s = objects_of x.store in
    let needs_are : m.need v s f.work.caller (stage_of f.work) ≡ taking u ∷ [] =
    needs v s f.work.caller ∙ ap (λ n. taking n ∷ []) same in
    record {
      small =
          laws.need.ranges v (table_of x.images) s f.work.caller (stage_of f.work) (taking u)
          (stands m sound x p f running abstraction there)
          (subst (λ (ns : List Need). Contains ns (taking u)) (sym needs_are) (0, omega arith, refl));
      user = own_user x p none;
      needs = sym (piece_needs m x p f running there none) ∙ needs_are;
    }

-- ---- what blocks it

-- what the holder of a user lock is to who waits for it
abbrev by_holder : (u h : ℕ) → Blocker
by_holder u h = record { object = Lock u; holder = h; call = None }

-- what hinders a call by a user lock
abbrev taken_by : (u h : ℕ) → Option Hindrance
taken_by u h = Some (record { object = Lock u; holder = h; by_user = true })

-- what an entry keeps
abbrev kept_as : Object → ℕ → Option ℕ → Option Blocker
kept_as o h call = Some (record { object = o; holder = h; call = call })

number_self : (n : ℕ) → (n == n) ≡ true
number_self n = grind (arith, nat_tests)

same_holder : (u h : ℕ) → same_blocker (Some (by_holder u h)) (Some (by_holder u h)) ≡ true
same_holder u h =
    ap (λ t. t && (h == h) && true) (same_object_self (Lock u)) ∙ ap (λ t. t && true) (number_self h)

module _ {C B M : Type 0} {P : _} (m : Meaning) (x : Running C B M P) (p u h : ℕ) where
  -- a call that takes a user lock of another process, where nothing is held
  hindered_still : IsRunning x → held x.locks ≡ no_locks → TakesAlone m x p u →
      (objects_of x.store).things.lock u ≡ Some h → (h == p) ≡ false →
      first_hindrance (placed_holds (placed_of x)) (objects_of x.store).things.lock p
      (lock_user p (placed_levels (placed_of x) p)) (placed_needs m (placed_of x) p)
      ≡ taken_by u h
  hindered_still running free takes holder other =
      let y = placed_of x in
      let users = (objects_of x.store).things.lock in
      ap (λ (t : LockTable). first_hindrance t users p (lock_user p (placed_levels y p)) (placed_needs m y p))
      (holds_in_place x running ∙ free)
      ∙ ap (λ q. first_hindrance no_locks users p q (placed_needs m y p)) takes.user
      ∙ ap (first_hindrance no_locks users p p) takes.needs
      ∙ user_first users p p (taking u) []
      ∙ ap (λ o. or_else (user_hindrance p (Lock u) o) None) holder
      ∙ ap (λ (t : Bool). or_else (cond t None (taken_by u h)) None) other

pub no_call : (o : Option ℕ) → is_some o ≡ false → o ≡ None
no_call None h = refl
no_call (Some n) h = absurd cc

pub still_waits : {C B M : Type 0} {P : _} (m : Meaning) (x : Running C B M P) (w : Waiting)
    (b : Blocking) (u h : ℕ) → IsRunning x → w.blocker ≡ Some b → b.object ≡ Lock u → b.call ≡ None →
    b.holder ≡ h → (h == w.process) ≡ false → held x.locks ≡ no_locks → TakesAlone m x w.process u →
    (objects_of x.store).things.lock u ≡ Some h → KeepsBlocker m (placed_of x) w
still_waits m x w b u h running kept object call holder other free takes held_by =
    record {
      some = ap is_some kept_is;
      blocker =
          ap (option_map (placed_blocker_from (placed_of x)))
          (hindered_still m x w.process u h running free takes held_by other) ∙ sym kept_is;
      stays =
          ap (λ (t : Bool). elim t as (λ _. Waiter) [
            | true ↦ entry_of w
            | false ↦ record {
              process = w.process;
              blocker = option_map blocker_of w.blocker;
              count = 0;
            }
          ]) (ap (λ o. same_blocker o o) kept_is ∙ same_holder u h);
    }
  where
    kept_is : option_map blocker_of w.blocker ≡ Some (by_holder u h)
    kept_is =
        ap (option_map blocker_of) kept
        ∙ ap (λ o. kept_as o b.holder b.call) object
        ∙ ap (λ n. kept_as (Lock u) n b.call) holder
        ∙ ap (kept_as (Lock u) h) call
