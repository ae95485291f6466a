-- Steps until all calls are blocked.
use Rattle.std.proofs.Common.{◌≡◌, ℕ, zero, suc, ◌<◌, Bool, true, List, [], ◌∷◌, Option, Some}
use Rattle.std.proofs.Common.{None, arith, refl, ap, subst, sym, ◌∙◌}
use Rattle.std.specs.Prelude.{Contains, is_some}
use Rattle.kernel_model.specs.declared.Note.{Note}
use Rattle.kernel_model.specs.World.{Blocks}
use Rattle.kernel_model.specs.Meaning.{Meaning}
use Rattle.kernel_model.specs.Kernel.{Blocker, Waiter}
use Rattle.kernel_model.specs.Locks.{LockTable}
use Rattle.placed_laws.specs.Agreeing.{SameShown}
use Rattle.placed_laws.specs.Placed.{Placed, PlacedRun, placed_blocker, placed_blocker_in, placed_holds}
use Rattle.placed_laws.specs.PlacedSteps.{placed_first_free, placed_first_free_in, placed_step}
use Rattle.placed_laws.specs.PlacedEvents.{placed_rested, placed_settle}
use Rattle.call_pieces.specs.Disks.{DiskSeen}
use Rattle.running_kernel.specs.declared.running.Running.{Running}
use Rattle.kernel_steps.specs.Moments.{kernel_moment}
use Rattle.kernel_steps.specs.Runs.{CanRun, RefinesAndKeeps}
use Rattle.running_kernel.specs.Views.{placed_of, call_at, run_of, IsRunning, HasAbstraction}
use Rattle.kernel_core.proofs.WentLemmas.{called_small, ordered_called}
use Rattle.kernel_core.proofs.TickLemmas.{same_number}

-- ---- the first that nothing blocks

-- an entry of the order that nothing blocks
pub record IsFree (m : Meaning) (x : Placed) (locks : LockTable) (es : List Waiter) (p : ℕ) : Type 0 where
  pub entry : Waiter
  pub among : Contains es entry
  pub process : entry.process ≡ p
  pub free : placed_blocker_in m x locks p ≡ None

free_from : (m : Meaning) (x : Placed) (locks : LockTable) (es : List Waiter) (p : ℕ) →
    placed_first_free_in m x locks es ≡ Some p → IsFree m x locks es p
free_from m x locks [] p h = grind (arith, h)
free_from m x locks (e ∷ es) p h = by_blocker (placed_blocker_in m x locks e.process) refl (free_from m x locks es p)
  where
    by_blocker : (b : Option Blocker) → placed_blocker_in m x locks e.process ≡ b →
        (placed_first_free_in m x locks es ≡ Some p → IsFree m x locks es p) →
        IsFree m x locks (e ∷ es) p
    by_blocker None is further =
        let same = same_number e.process p (sym (ap (λ o. elim o as (λ _. Option ℕ) [
          | None ↦ Some e.process
          | Some b ↦ placed_first_free_in m x locks es
        ]) is) ∙ h) in
        record {
          entry = e;
          among = (0, omega arith, refl);
          process = same;
          free = ap (placed_blocker_in m x locks) (sym same) ∙ is;
        }
    by_blocker (Some b) is further =
        let f = further (sym (ap (λ o. elim o as (λ _. Option ℕ) [
          | None ↦ Some e.process
          | Some b ↦ placed_first_free_in m x locks es
        ]) is) ∙ h) in
        record {
          entry = f.entry;
          among = (suc f.among.0, omega (arith, f.among.1), f.among.2);
          process = f.process;
          free = f.free;
        }

pub free_is : (m : Meaning) (x : Placed) (p : ℕ) → placed_first_free m x x.order ≡ Some p →
    IsFree m x (placed_holds x) x.order p
free_is m x p h = free_from m x (placed_holds x) x.order p h

-- nothing blocks it
pub free_unblocked : (m : Meaning) (x : Placed) (p : ℕ) → HasAbstraction m x →
    placed_first_free m x x.order ≡ Some p → placed_blocker m x p ≡ None
free_unblocked m x p s h = (free_is m x p h).free

-- it has a call
pub free_called : (m : Meaning) → SameShown m → (x : Placed) (p : ℕ) → HasAbstraction m x →
    placed_first_free m x x.order ≡ Some p → is_some (x.call p) ≡ true
free_called m shown x p s h =
    let f = free_is m x p h in
    ap (λ q. is_some (x.call q)) (sym f.process) ∙ ordered_called m shown x f.entry s f.among

-- and is one of sixteen
pub free_small : (m : Meaning) → SameShown m → (x : Placed) (p : ℕ) → HasAbstraction m x →
    placed_first_free m x x.order ≡ Some p → p < 16
free_small m shown x p s h = called_small m x p s (free_called m shown x p s h)

-- ---- what settling is

-- no turn is left
pub settle_none : (m : Meaning) (n : ℕ) (r : PlacedRun) → n ≡ 0 → placed_settle m n r ≡ placed_rested m r
settle_none m n r h = ap (λ k. placed_settle m k r) h

-- nothing is free
pub settle_blocked : (m : Meaning) (n : ℕ) (x : Placed) → 0 < n →
    placed_first_free m x x.order ≡ None → (blocks : Blocks) (notes : List Note) (io : List Bool) →
    placed_settle m n (run_of x blocks notes io) ≡ placed_rested m (run_of x blocks notes io)
settle_blocked m zero x some h blocks notes io = absurd (omega (arith, some))
settle_blocked m (suc n) x some h blocks notes io =
    ap (λ o. elim o as (λ _. PlacedRun) [
      | None ↦ placed_rested m (run_of x blocks notes io)
      | Some p ↦ placed_settle m n (placed_step m p (run_of x blocks notes io))
    ]) h

-- p is free
pub settle_free : (m : Meaning) (n k : ℕ) (x : Placed) (p : ℕ) →
    n ≡ suc k → placed_first_free m x x.order ≡ Some p →
    (blocks : Blocks) (notes : List Note) (io : List Bool) →
    placed_settle m n (run_of x blocks notes io) ≡ placed_settle m k (placed_step m p (run_of x blocks notes io))
settle_free m n k x p is h blocks notes io =
    ap (λ j. placed_settle m j (run_of x blocks notes io)) is
    ∙ ap (λ o. elim o as (λ _. PlacedRun) [
      | None ↦ placed_rested m (run_of x blocks notes io)
      | Some q ↦ placed_settle m k (placed_step m q (run_of x blocks notes io))
    ]) h

-- ---- where nothing changed

-- a call of what it was before can run
pub can_run : {C B M : Type 0} {P : _} (m : Meaning) (x y : Running C B M P) (seen : DiskSeen) (p :
    ℕ) → y ≡ x → p < 16 → IsRunning x → HasAbstraction m (placed_of x) → x.store.size ≡ seen.size →
    CanRun m y seen p
can_run m x y seen p same small running stands disk =
    subst (λ z. CanRun m z seen p) (sym same)
    (record { process = small; running = running; abstraction = stands; disk = disk })

-- it has a call
pub called_still : {C B M : Type 0} {P : _} (x y : Running C B M P) (p : ℕ) → y ≡ x →
    is_some (call_at x p) ≡ true → is_some (call_at y p) ≡ true
called_still x y p same h = subst (λ z. is_some (call_at z p) ≡ true) (sym same) h

-- nothing blocks it
pub unblocked_still : {C B M : Type 0} {P : _} (m : Meaning) (x y : Running C B M P) (p : ℕ) →
    y ≡ x → placed_blocker m (placed_of x) p ≡ None → placed_blocker m (placed_of y) p ≡ None
unblocked_still m x y p same h = subst (λ z. placed_blocker m (placed_of z) p ≡ None) (sym same) h

-- what follows from it follows from what it was before
pub went_from : {C B M : Type 0} {P : _} (m : Meaning) (f : PlacedRun → PlacedRun)
    (x y z : Running C B M P) (kept kept_new : List Note) (d e : DiskSeen) → y ≡ x →
    RefinesAndKeeps m f (kernel_moment y kept d) (kernel_moment z kept_new e) →
    RefinesAndKeeps m f (kernel_moment x kept d) (kernel_moment z kept_new e)
went_from m f x y z kept kept_new d e same h =
    subst (λ v. RefinesAndKeeps m f (kernel_moment v kept d) (kernel_moment z kept_new e)) same h
