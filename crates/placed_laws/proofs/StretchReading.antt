-- What a call holds already, nobody else keeps from it, and a touch leaves as it was.
use Rattle.std.proofs.Common.{◌≡◌, ◌≢◌, ℕ, ◌==◌, ◌&&◌, ◌<◌, Bool, true, false, cond, not, List, []}
use Rattle.std.proofs.Common.{◌∷◌, length, Option, Some, None, arith, refl, ◌∙◌, ap}
use Rattle.std.specs.Prelude.{find, is_some, option_map}
use Rattle.std.proofs.lemmas.Bool.Decides.{nat_tests}
use mathlib.Core.Path.{fun_ext}
use Rattle.kernel_model.specs.declared.Held.{Held}
use Rattle.kernel_model.specs.declared.Mode.{Mode}
use Rattle.kernel_model.specs.declared.Need.{Need}
use Rattle.kernel_model.specs.declared.Object.{Object}
use Rattle.kernel_model.specs.Objects.{same_object}
use Rattle.kernel_model.specs.SameObject.{same_object_is}
use Rattle.kernel_model.specs.World.{processes}
use Rattle.kernel_model.specs.Meaning.{Meaning}
use Rattle.kernel_model.specs.Kernel.{Kernel}
use Rattle.kernel_model.specs.GraftStep.{lock_user}
use Rattle.kernel_model.specs.Blocking.{holds}
use Rattle.kernel_model.specs.Levels.{Level, level_at, touched_in, touched_at}
use Rattle.kernel_model.specs.Locks.{LockTable, Touched, Hindrance, conflicts, is_held, stronger}
use Rattle.kernel_model.specs.Locks.{touch, user_hindrance, user_of, hinders, lowest_holder}
use Rattle.kernel_model.specs.Locks.{hindrance_by, first_hindrance}
use Rattle.kernel_model.specs.Sound.{clash}
use Rattle.graft_laws.proofs.InPlaceLemmas.{row_low}
use Rattle.placed_laws.specs.Placed.{Placed, placed_levels, placed_holds, placed_needs}
use Rattle.placed_laws.specs.Placed.{placed_blocker, placed_blocker_from}
use Rattle.placed_laws.specs.Stands.{StandsFor}
use Rattle.placed_laws.specs.Agreeing.{SameBlockers}

-- ---- nobody keeps it from the call

-- what doesn't clash with what holds an object can be had shared
no_conflict : (h g : Held) → is_held h ≡ true → clash h g ≡ false → conflicts g Mode.Shared ≡ false
no_conflict Held.Free g has apart = absurd cc
no_conflict Held.Shared Held.Free has apart = refl
no_conflict Held.Shared Held.Shared has apart = refl
no_conflict Held.Shared Held.Exclusive has apart = absurd cc
no_conflict Held.Exclusive Held.Free has apart = refl
no_conflict Held.Exclusive Held.Shared has apart = absurd cc
no_conflict Held.Exclusive Held.Exclusive has apart = absurd cc

-- nothing is found where nothing passes the test
none_found : (test : ℕ → Bool) (xs : List ℕ) → ((x : ℕ) → test x ≡ false) → find test xs ≡ None
none_found test [] h = refl
none_found test (x ∷ xs) h = ap (λ b. cond b (Some x) (find test xs)) (h x) ∙ none_found test xs h

module _ (m : Meaning) (same : SameBlockers m) (x : Placed) (k : Kernel) (p d : ℕ)
    (n : Need) (stands : StandsFor m x k) (shared : n.mode ≡ Mode.Shared)
    (has : is_held (placed_holds x p d n.object) ≡ true) where
  level_apart : (q e : ℕ) → p ≢ q → conflicts (placed_holds x q e n.object) n.mode ≡ false
  level_apart q e other =
      ap (conflicts (placed_holds x q e n.object)) shared
      ∙ no_conflict (placed_holds x p d n.object) (placed_holds x q e n.object) has
      (ap (λ h. clash h (placed_holds x q e n.object)) (same.held x k p d n.object stands)
      ∙ ap (clash (holds m k p d n.object)) (same.held x k q e n.object stands)
      ∙ stands.kernel.apart p q d e n.object other)

  not_hindered : (q : ℕ) → p ≢ q → hinders n.object n.mode (placed_holds x q) ≡ false
  not_hindered q other =
      ap is_some (none_found (λ e. conflicts (placed_holds x q e n.object) n.mode)
      (0 ∷ 1 ∷ 2 ∷ 3 ∷ []) (λ e. level_apart q e other))

  no_other : (q : ℕ) (b : Bool) → (q == p) ≡ b → (not (q == p) && hinders n.object n.mode (placed_holds x q)) ≡ false
  no_other q true e = ap (λ b. not b && hinders n.object n.mode (placed_holds x q)) e
  no_other q false e =
      let other : p ≢ q = grind (arith, nat_tests, e) in
      ap (λ b. not b && hinders n.object n.mode (placed_holds x q)) e ∙ not_hindered q other

  nobody : lowest_holder (placed_holds x) p n.object n.mode ≡ None
  nobody =
      none_found (λ q. not (q == p) && hinders n.object n.mode (placed_holds x q)) processes
      (λ q. no_other q (q == p) refl)

-- what hinders one need
hindered_by_one : (users : ℕ → Option ℕ) (p q : ℕ) (t : LockTable) (n : Need) (found : Option ℕ) →
    lowest_holder t p n.object n.mode ≡ found → found ≡ None → n.by_user ≡ false →
    first_hindrance t users p q (n ∷ []) ≡ None
hindered_by_one users p q t n found is none user =
    ap (λ (h : Option ℕ). by_found (hindrance_by users q n h)) (is ∙ none)
    ∙ ap (λ b. by_found (cond b (user_hindrance q n.object (user_of users n.object)) None)) user
  where
    by_found : Option Hindrance → Option Hindrance
    by_found (Some h) = Some h
    by_found None = None

-- a call isn't blocked that needs one object shared, other than as a user does, and of which a level holds it
pub held_is_free : (m : Meaning) → SameBlockers m → (x : Placed) (k : Kernel) (p d : ℕ) (n : Need) →
    StandsFor m x k → placed_needs m x p ≡ n ∷ [] → n.by_user ≡ false → n.mode ≡ Mode.Shared →
    is_held (placed_holds x p d n.object) ≡ true → placed_blocker m x p ≡ None
held_is_free m same x k p d n stands needs user shared has =
    ap (λ ns. option_map (placed_blocker_from x) (first_hindrance (placed_holds x)
    x.objects.things.lock p (lock_user p (placed_levels x p)) ns)) needs
    ∙ ap (option_map (placed_blocker_from x))
    (hindered_by_one x.objects.things.lock p (lock_user p (placed_levels x p))
    (placed_holds x) n (lowest_holder (placed_holds x) p n.object n.mode) refl
    (nobody m same x k p d n stands shared has) user)

-- how the innermost level holds objects
pub innermost_holds : (x : Placed) (p : ℕ) (l : Level) (ls : List Level) → p < 16 →
    placed_levels x p ≡ l ∷ ls → placed_holds x p (length ls) ≡ l.touched
innermost_holds x p l ls small here =
    ap (λ ks. touched_at ks (length ls)) (row_low (placed_levels x) p small ∙ here)
    ∙ ap (λ b. touched_in (elim b as (λ _. Option Level) [
      | true ↦ Some l
      | false ↦ level_at (length ls) ls
    ])) (itself (length ls))
  where
    itself : (d : ℕ) → (d == d) ≡ true
    itself d = grind (arith, nat_tests)

-- ---- a touch changes nothing

held_still : (h : Held) → is_held h ≡ true → stronger h Held.Shared ≡ h
held_still Held.Free e = absurd cc
held_still Held.Shared e = refl
held_still Held.Exclusive e = refl

pub touched_still : (o : Object) (mode : Mode) (t : Touched) → mode ≡ Mode.Shared →
    is_held (t o) ≡ true → touch o mode t ≡ t
touched_still o mode t shared has = ap (λ i. touch o i t) shared ∙ fun_ext (λ a. by_test a (same_object a o) refl)
  where
    by_test : (a : Object) (b : Bool) → same_object a o ≡ b → touch o Mode.Shared t a ≡ t a
    by_test a true e =
        ap (λ b. cond b (stronger (t a) Held.Shared) (t a)) e
        ∙ held_still (t a) (ap (λ c. is_held (t c)) (same_object_is a o e) ∙ has)
    by_test a false e = ap (λ b. cond b (stronger (t a) Held.Shared) (t a)) e
