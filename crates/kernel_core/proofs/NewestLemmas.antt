-- A call that begins where each other call in the order is blocked: its step is the first.
use Rattle.std.proofs.Common.{◌≡◌, ℕ, suc, Bool, true, false, cond, List, [], ◌∷◌, ◌++◌}
use Rattle.std.proofs.Common.{Option, Some, None, arith, refl, ap, sym, subst, ◌∙◌}
use Rattle.std.specs.Prelude.{Contains, is_some, option_map, ◌≢◌}
use Rattle.std.proofs.lemmas.Bool.{ne_eqb}
use Rattle.kernel_model.specs.declared.Need.{Need}
use Rattle.kernel_model.specs.declared.Note.{Note}
use Rattle.kernel_model.specs.World.{Blocks}
use Rattle.kernel_model.specs.Objects.{at}
use Rattle.kernel_model.specs.GraftStep.{lock_user}
use Rattle.kernel_model.specs.Kernel.{Blocker, Waiter, new_entry}
use Rattle.kernel_model.specs.Laws.{Laws}
use Rattle.kernel_model.specs.Locks.{Hindrance, LockTable, first_hindrance}
use Rattle.kernel_model.specs.Meaning.{Meaning}
use Rattle.placed_laws.specs.Placed.{Placed, PlacedCall, PlacedLevel, PlacedRun, placed_blocker}
use Rattle.placed_laws.specs.Placed.{placed_blocker_from, placed_blocker_in, placed_holds}
use Rattle.placed_laws.specs.Placed.{placed_levels, placed_needs, placed_needs_at, placed_needs_in}
use Rattle.placed_laws.specs.PlacedSteps.{placed_first_free, placed_first_free_in, placed_joins}
use Rattle.placed_laws.specs.PlacedSteps.{placed_step, with_placed_call}
use Rattle.placed_laws.specs.PlacedEvents.{placed_settle, placed_settled}
use Rattle.placed_laws.proofs.Laws.{same_shown}
use Rattle.placed_laws.proofs.OtherLemmas.{blocker_there}
use Rattle.running_kernel.specs.declared.running.Running.{Running}
use Rattle.running_kernel.specs.Idle.{joined_in}
use Rattle.running_kernel.specs.Views.{placed_of, run_of}
use Rattle.kernel_core.specs.EventParts.{settled_newest, Rests}
use Rattle.kernel_core.proofs.AloneLemmas.{first_alone}
use Rattle.kernel_core.proofs.RestLemmas.{run_from, stands_from}
use Rattle.kernel_core.proofs.SettleLemmas.{settle_free}
use Rattle.kernel_core.proofs.WentLemmas.{ordered_called}

contrary : true ≡ false → ⊥
contrary h = cc

some_mapped : {A B : Type 0} (f : A → B) (o : Option A) → is_some (option_map f o) ≡ is_some o
some_mapped f None = refl
some_mapped f (Some x) = refl

-- ---- the order

-- blocked entries are passed
past_blocked : (m : Meaning) (x : Placed) (locks : LockTable) (es fs : List Waiter) →
    ((e : Waiter) → Contains es e → is_some (placed_blocker_in m x locks e.process) ≡ true) →
    placed_first_free_in m x locks (es ++ fs) ≡ placed_first_free_in m x locks fs
past_blocked m x locks [] fs h = refl
past_blocked m x locks (e ∷ es) fs h =
    by_blocker (placed_blocker_in m x locks e.process) refl (h e (0, omega arith, refl))
    (past_blocked m x locks es fs (λ f has. h f (suc has.0, omega (arith, has.1), has.2)))
  where
    by_blocker : (b : Option Blocker) → placed_blocker_in m x locks e.process ≡ b →
        is_some (placed_blocker_in m x locks e.process) ≡ true →
        placed_first_free_in m x locks (es ++ fs) ≡ placed_first_free_in m x locks fs →
        placed_first_free_in m x locks (e ∷ (es ++ fs)) ≡ placed_first_free_in m x locks fs
    by_blocker None is some further = absurd (contrary (sym some ∙ ap is_some is))
    by_blocker (Some b) is some further =
        ap (λ o. elim o as (λ _. Option ℕ) [
          | None ↦ Some e.process
          | Some b ↦ placed_first_free_in m x locks (es ++ fs)
        ]) is ∙ further

-- the only entry that is left, where nothing blocks it
first_left : (m : Meaning) (x : Placed) (p : ℕ) → placed_blocker m x p ≡ None →
    placed_first_free_in m x (placed_holds x) (new_entry p ∷ []) ≡ Some p
first_left m x p free =
    ap (λ o. elim o as (λ _. Option ℕ) [
      | None ↦ Some p
      | Some b ↦ placed_first_free_in m x (placed_holds x) []
    ]) free

-- ---- a kernel with one call more, which has no level

module _ (m : Meaning) (x : Placed) (p : ℕ) (c : PlacedCall) (es : List Waiter) where
  -- it, with this order
  abbrev with_newest : Placed
  with_newest = record x { call = at p (Some c) x.call; order = es }

  same_needs_at : (q : ℕ) (d : PlacedCall) (ls : List PlacedLevel) →
      placed_needs_at m with_newest q d ls ≡ placed_needs_at m x q d ls
  same_needs_at q d [] = refl
  same_needs_at q d (l ∷ ls) = refl

  same_needs_in : (q : ℕ) (o : Option PlacedCall) → placed_needs_in m with_newest q o ≡ placed_needs_in m x q o
  same_needs_in q None = refl
  same_needs_in q (Some d) = same_needs_at q d (x.levels q)

  same_needs : (q : ℕ) → q ≢ p → placed_needs m with_newest q ≡ placed_needs m x q
  same_needs q ne =
      ap (placed_needs_in m with_newest q)
      (ap (λ b. cond b (Some c) (x.call q)) (ne_eqb q p ne)) ∙ same_needs_in q (x.call q)

  -- whoever was blocked is blocked, and nobody else
  blocked_alike : (q : ℕ) → q ≢ p → is_some (placed_blocker m with_newest q) ≡ is_some (placed_blocker m x q)
  blocked_alike q ne =
      some_mapped (placed_blocker_from with_newest) (found (placed_needs m with_newest q))
      ∙ ap (λ ns. is_some (found ns)) (same_needs q ne)
      ∙ sym (some_mapped (placed_blocker_from x) (found (placed_needs m x q)))
    where
      found : List Need → Option Hindrance
      found ns = first_hindrance (placed_holds x) x.objects.things.lock q (lock_user q (placed_levels x q)) ns

-- ---- at rest

-- where a kernel rests, each call in the order is blocked
rest_blocks : (m : Meaning) → Laws m → (x : Placed) (blocks : Blocks) → Rests m x blocks →
    (e : Waiter) → Contains x.order e → is_some (placed_blocker m x e.process) ≡ true
rest_blocks m laws x blocks s e has =
    let k = s.rests e (subst (λ (es : List Waiter). Contains es e) s.stands.order has) in
    ap is_some (blocker_there m laws (run_of x blocks [] []) (run_from m x blocks [] [] s) e.process
    (stands_from m x blocks [] [] s) ∙ k.1) ∙ k.0

-- So a call that begins then has the first step of those that can be taken, if nothing blocks it.
pub newest_first : (m : Meaning) → Laws m → (x : Placed) (p : ℕ) (c : PlacedCall) → x.call p ≡ None →
    (blocks : Blocks) (notes : List Note) (io : List Bool) → Rests m x blocks →
    placed_settled m (placed_joins p (with_placed_call p (Some c) (run_of x blocks notes io)))
    ≡ settled_newest m p (placed_joins p (with_placed_call p (Some c) (run_of x blocks notes io)))
newest_first m laws x p c none blocks notes io s = by_blocker (placed_blocker m y p) refl
  where
    y : Placed
    y = with_newest m x p c (x.order ++ new_entry p ∷ [])

    other : (e : Waiter) → Contains x.order e → e.process ≢ p
    other e has same =
        contrary (sym (ordered_called m (same_shown m laws) x e
        (record { kernel = s.kernel; stands = s.stands }) has)
        ∙ ap (λ q. is_some (x.call q)) same ∙ ap is_some none)

    passed : placed_first_free m y y.order ≡ placed_first_free_in m y (placed_holds y) (new_entry p ∷ [])
    passed =
        past_blocked m y (placed_holds y) x.order (new_entry p ∷ [])
        (λ e has. blocked_alike m x p c (x.order ++ new_entry p ∷ []) e.process (other e has)
        ∙ rest_blocks m laws x blocks s e has)

    by_blocker : (b : Option Blocker) → placed_blocker m y p ≡ b →
        placed_settled m (run_of y blocks notes io) ≡ settled_newest m p (run_of y blocks notes io)
    by_blocker None free =
        settle_free m 256 255 y p (omega arith) (passed ∙ first_left m y p free) blocks notes io
        ∙ sym (ap (λ o. elim o as (λ _. PlacedRun) [
          | Some b ↦ placed_settled m (run_of y blocks notes io)
          | None ↦ placed_settle m 255 (placed_step m p (run_of y blocks notes io))
        ]) free)
    by_blocker (Some b) is =
        sym (ap (λ o. elim o as (λ _. PlacedRun) [
          | Some b ↦ placed_settled m (run_of y blocks notes io)
          | None ↦ placed_settle m 255 (placed_step m p (run_of y blocks notes io))
        ]) is)

-- ---- what it comes to

-- by whether something blocks it
pub newest_blocked : (m : Meaning) (y : Placed) (p : ℕ) (b : Blocker) → placed_blocker m y p ≡ Some b →
    (blocks : Blocks) (notes : List Note) (io : List Bool) →
    settled_newest m p (run_of y blocks notes io) ≡ placed_settled m (run_of y blocks notes io)
newest_blocked m y p b is blocks notes io =
    ap (λ o. elim o as (λ _. PlacedRun) [
      | Some b ↦ placed_settled m (run_of y blocks notes io)
      | None ↦ placed_settle m 255 (placed_step m p (run_of y blocks notes io))
    ]) is

pub newest_goes : (m : Meaning) (y : Placed) (p : ℕ) → placed_blocker m y p ≡ None →
    (blocks : Blocks) (notes : List Note) (io : List Bool) →
    settled_newest m p (run_of y blocks notes io)
    ≡ placed_settle m 255 (placed_step m p (run_of y blocks notes io))
newest_goes m y p free blocks notes io =
    ap (λ o. elim o as (λ _. PlacedRun) [
      | Some b ↦ placed_settled m (run_of y blocks notes io)
      | None ↦ placed_settle m 255 (placed_step m p (run_of y blocks notes io))
    ]) free

-- where no other call waits it is all steps that can be taken
pub newest_alone : {C B M : Type 0} {P : _} (m : Meaning) (x : Running C B M P) (p : ℕ) → x.order ≡ [] →
    (blocks : Blocks) (notes : List Note) (io : List Bool) →
    settled_newest m p (run_of (placed_of (joined_in p x)) blocks notes io)
    ≡ placed_settle m 256 (run_of (placed_of (joined_in p x)) blocks notes io)
newest_alone m x p none blocks notes io = by_blocker (placed_blocker m y p) refl
  where
    y : Placed
    y = placed_of (joined_in p x)

    by_blocker : (b : Option Blocker) → placed_blocker m y p ≡ b →
        settled_newest m p (run_of y blocks notes io) ≡ placed_settle m 256 (run_of y blocks notes io)
    by_blocker None free =
        newest_goes m y p free blocks notes io
        ∙ sym (settle_free m 256 255 y p (omega arith) (first_alone m x p none free) blocks notes io)
    by_blocker (Some b) is = newest_blocked m y p b is blocks notes io
