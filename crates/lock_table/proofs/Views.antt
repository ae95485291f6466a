-- Lemmas on the view of the table.
use Rattle.std.proofs.Common.{◌≡◌, ◌≢◌, ℕ, ◌<◌, ◌≤◌, Bool, true, false, cond, ◌&&◌, ◌==◌, nat_lt}
use Rattle.std.proofs.Common.{List, [], length, not, is_some, set, find, refl, arith, ◌∙◌, sym, ap}
use mathlib.Core.Path.{fun_ext}
use Rattle.std.proofs.lemmas.Bool.Decides.{nat_tests}
use Rattle.std.proofs.lemmas.List.{get_or-set_same, get_or-set_other}
use Rattle.kernel_model.specs.declared.Object.{Object}
use Rattle.kernel_model.specs.declared.Mode.{Mode}
use Rattle.kernel_model.specs.declared.Held.{Held}
use Rattle.kernel_model.specs.Objects.{same_object}
use Rattle.kernel_model.specs.SameObject.{same_object_is, same_object_self}
use Rattle.kernel_model.specs.Laws.{IsInRange}
use Rattle.kernel_model.specs.World.{processes}
use Rattle.kernel_model.specs.Locks.{Touched, touch, no_locks, with_touch, merge_level}
use Rattle.kernel_model.specs.Locks.{release_from, stronger, held_as, outermost_holding}
use Rattle.kernel_model.specs.Locks.{lowest_holder}
use Rattle.lock_table.specs.declared.Holds.{Holds}
use Rattle.lock_table.specs.Numbers.{number_of, is_in_range}
use Rattle.lock_table.specs.Masks.{held, levels_at, masks_of, merged, released, conflicting_level}
use Rattle.lock_table.proofs.ObjectNumbers.{tell_apart, in_range, ranged}

-- nothing is held
pub nothing : (calls : List (List Holds)) →
    ((p n e : ℕ) → levels_at (masks_of calls p) n e ≡ Held.Free) → held calls ≡ no_locks
nothing calls free =
    fun_ext (λ p. fun_ext
    (λ e. fun_ext (λ o. rw (free p (number_of o) e) (go (nat_lt p 16 && is_in_range o)))))
  where
    go : (b : Bool) → cond b Held.Free Held.Free ≡ Held.Free
    go true = refl
    go false = refl

-- the masks of the other processes stay
pub others : (calls : List (List Holds)) (p q : ℕ) (masks : List Holds) → (q == p) ≡ false →
    masks_of (set calls p masks) q ≡ masks_of calls q
others calls p q masks h = get_or-set_other calls p q masks [] (λ (same : q ≡ p). grind (arith, nat_tests, h, same))

pub its_own : (calls : List (List Holds)) (p q : ℕ) (masks : List Holds) → p < length calls →
    (q == p) ≡ true → masks_of (set calls p masks) q ≡ masks
its_own calls p q masks lt h =
    let same : q ≡ p = grind (arith, nat_tests, h) in
    rw same (get_or-set_same calls p masks [] lt)

-- one level's part of a process changes
pub merge_view : (calls : List (List Holds)) (masks : List Holds) (p d : ℕ) → p < 16 → length calls ≡ 16
    → ((n e : ℕ) → levels_at masks n e ≡ merged d (levels_at (masks_of calls p) n) e) →
    held (set calls p masks) ≡ merge_level p d (held calls)
merge_view calls masks p d lt size h =
    fun_ext (λ q. fun_ext (λ e. fun_ext (λ o. go q e o (q == p) refl (is_in_range o) refl)))
  where
    go : (q e : ℕ) (o : Object) (s : Bool) → (q == p) ≡ s → (b : Bool) → is_in_range o ≡ b →
        held (set calls p masks) q e o ≡ merge_level p d (held calls) q e o
    go q e o true same true is =
        let here : q ≡ p = grind (arith, nat_tests, same) in
        rw (here, is) (rw (its_own calls p p masks (omega (arith, lt, size))
        (grind (arith, nat_tests))) (rw (h (number_of o) e) (grind (arith, nat_tests))))
    go q e o false same true is = rw (is, others calls p q masks same) (grind (arith, nat_tests, same))
    go q e o s same false is = rw is (grind (arith, nat_tests))

pub release_view : (calls : List (List Holds)) (masks : List Holds) (p d : ℕ) → p < 16 → length calls ≡ 16
    → ((n e : ℕ) → levels_at masks n e ≡ released d (levels_at (masks_of calls p) n) e) →
    held (set calls p masks) ≡ release_from p d (held calls)
release_view calls masks p d lt size h =
    fun_ext (λ q. fun_ext (λ e. fun_ext (λ o. go q e o (q == p) refl (is_in_range o) refl)))
  where
    go : (q e : ℕ) (o : Object) (s : Bool) → (q == p) ≡ s → (b : Bool) → is_in_range o ≡ b →
        held (set calls p masks) q e o ≡ release_from p d (held calls) q e o
    go q e o true same true is =
        let here : q ≡ p = grind (arith, nat_tests, same) in
        rw (here, is) (rw (its_own calls p p masks (omega (arith, lt, size))
        (grind (arith, nat_tests))) (rw (h (number_of o) e) (grind (arith, nat_tests))))
    go q e o false same true is = rw (is, others calls p q masks same) (grind (arith, nat_tests, same))
    go q e o s same false is = rw is (grind (arith, nat_tests))

-- the numbers of two objects are one exactly where the objects are
same_number : (a o : Object) → IsInRange a → IsInRange o → (number_of a == number_of o) ≡ same_object a o
same_number a o ha ho = go (same_object a o) refl
  where
    go : (b : Bool) → same_object a o ≡ b → (number_of a == number_of o) ≡ same_object a o
    go true s = rw s (rw (same_object_is a o s) (grind (arith, nat_tests)))
    go false s =
        let apart : number_of a ≢ number_of o = λ e. grind (arith, same_object_self o, s, tell_apart a o ha ho e) in
        rw s (grind (arith, nat_tests, apart))

-- an object out of range is another than one that is in range
unlike : (a o : Object) → is_in_range a ≡ false → IsInRange o → same_object a o ≡ false
unlike a o out ho = go (same_object a o) refl
  where
    go : (b : Bool) → same_object a o ≡ b → same_object a o ≡ false
    go true s =
        let same : a ≡ o = same_object_is a o s in
        let on : is_in_range a ≡ true = ap is_in_range same ∙ in_range o ho in
        absurd cc
    go false s = s

choose : (b : Bool) (f g : Touched) (a : Object) → cond b f g a ≡ cond b (f a) (g a)
choose true f g a = refl
choose false f g a = refl

pub touch_view : (calls : List (List Holds)) (masks : List Holds) (p d : ℕ) (o : Object)
    (mode : Mode) → p < 16 → length calls ≡ 16 → IsInRange o
    → ((n e : ℕ) → levels_at masks n e ≡ cond (n == number_of o && e == d) (stronger
    (levels_at (masks_of calls p) n e) (held_as mode)) (levels_at (masks_of calls p) n e))
    → held (set calls p masks) ≡ with_touch p d o mode (held calls)
touch_view calls masks p d o mode lt size ho h =
    fun_ext (λ q. fun_ext (λ e. fun_ext (λ a. said q e a
    ∙ sym (choose (q == p && e == d) (touch o mode (held calls p d)) (held calls q e) a))))
  where
    go : (q e : ℕ) (a : Object) (s : Bool) → (q == p) ≡ s → (b : Bool) → is_in_range a ≡ b
        → held (set calls p masks) q e a ≡ cond (q == p && e == d) (touch o mode (held calls p d) a) (held calls q e a)
    go q e a true same true is =
        let here : q ≡ p = grind (arith, nat_tests, same) in
        let number = same_number a o (ranged a is) ho in
        rw (here, is)
        (rw (its_own calls p p masks (omega (arith, lt, size)) (grind (arith, nat_tests)))
        (rw (h (number_of a) e) (rw number (grind (arith, nat_tests)))))
    go q e a false same true is = rw (is, others calls p q masks same) (rw same (grind (arith, nat_tests)))
    go q e a s same false is = rw (unlike a o is ho) (rw is (grind (arith, nat_tests)))

    said : (q e : ℕ) (a : Object) → held (set calls p masks) q e a ≡ cond (q == p && e == d)
        (touch o mode (held calls p d) a) (held calls q e a)
    said q e a = go q e a (q == p) refl (is_in_range a) refl

-- how one level holds an object
pub holding_view : (calls : List (List Holds)) (p d : ℕ) (o : Object) → p < 16 → IsInRange o →
    levels_at (masks_of calls p) (number_of o) d ≡ held calls p d o
holding_view calls p d o lt ho =
    let on : (nat_lt p 16 && is_in_range o) ≡ true = rw (in_range o ho) (grind (arith, nat_tests)) in
    rw on refl

-- a process from 16 on holds nothing
pub nothing_beyond : (calls : List (List Holds)) (p d : ℕ) (o : Object) → 16 ≤ p → held calls p d o ≡ Held.Free
nothing_beyond calls p d o le =
    let out : (nat_lt p 16 && is_in_range o) ≡ false = grind (arith, nat_tests, le) in
    rw out refl

pub level_view : (calls : List (List Holds)) (p : ℕ) (o : Object) (mode : Mode) → p < 16 → IsInRange o
    → conflicting_level (masks_of calls p) (number_of o) mode ≡ outermost_holding o mode (held calls p)
level_view calls p o mode lt ho =
    let on : (nat_lt p 16 && is_in_range o) ≡ true = rw (in_range o ho) (grind (arith, nat_tests)) in
    rw on refl

-- process q isn't p, and some level of it hinders
abbrev pub is_other_hindering : List (List Holds) → (p n : ℕ) → Mode → ℕ → Bool
is_other_hindering calls p n mode q =
    not (q == p) && is_some (conflicting_level (masks_of calls q) n mode)

-- what hinders by the masks hinders by the view
pub ask_view : (calls : List (List Holds)) (p : ℕ) (o : Object) (mode : Mode) → IsInRange o
    → find (is_other_hindering calls p (number_of o) mode) processes ≡ lowest_holder (held calls) p o mode
ask_view calls p o mode ho = rw (in_range o ho) refl
