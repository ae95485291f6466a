-- Lemmas on whether some level holds an object.
use Rattle.std.proofs.Common.{◌≡◌, ℕ, zero, suc, ◌-◌, ◌<◌, ◌≤◌, Bool, true, false, ◌||◌, refl, arith, ◌∙◌, ap}
use Rattle.std.proofs.lemmas.Bool.Decides.{nat_tests}
use Rattle.kernel_model.specs.declared.Held.{Held}
use Rattle.kernel_model.specs.declared.Mode.{Mode}
use Rattle.kernel_model.specs.Locks.{stronger, held_as, is_held}
use Rattle.kernel_model.specs.Objects.{at}
use Rattle.lock_table.specs.declared.Holds.{Holds}
use Rattle.lock_table.specs.Masks.{no_holds, held_by, is_used, merged, released}
use Rattle.lock_table.proofs.MaskLemmas.{far, empty}
use Rattle.lock_table.proofs.Hindering.{four}
use Rattle.lock_table.proofs.Hindering.{moved_1}
use Rattle.lock_table.proofs.Hindering.{moved_2}
use Rattle.lock_table.proofs.Hindering.{moved_3}

-- a level holds
abbrev holding : Holds → ℕ → Bool
holding h e = is_held (held_by h e)

-- what isn't held is free
not_held : (h : Held) → is_held h ≡ false → h ≡ Held.Free
not_held Held.Free is = refl
not_held Held.Shared is = absurd cc
not_held Held.Exclusive is = absurd cc

-- two ways to hold together
held-stronger : (a b : Held) → is_held (stronger a b) ≡ (is_held a || is_held b)
held-stronger Held.Free b = refl
held-stronger Held.Shared Held.Free = refl
held-stronger Held.Shared Held.Shared = refl
held-stronger Held.Shared Held.Exclusive = refl
held-stronger Held.Exclusive b = refl

-- what is touched is held
touched_held : (h : Held) (mode : Mode) → is_held (stronger h (held_as mode)) ≡ true
touched_held Held.Free Mode.Shared = refl
touched_held Held.Free Mode.Exclusive = refl
touched_held Held.Shared Mode.Shared = refl
touched_held Held.Shared Mode.Exclusive = refl
touched_held Held.Exclusive mode = refl

-- none of four is true
none_of : (a b c d : Bool) → (a || b || c || d) ≡ false → (a ≡ false) × (b ≡ false) × (c ≡ false) × (d ≡ false)
none_of a b c d h = grind (arith, nat_tests)

-- what no level uses is free at each level
pub free_levels : (h : Holds) → is_used h ≡ false → (e : ℕ) → held_by h e ≡ Held.Free
free_levels h is zero = not_held (held_by h 0) (none_of (holding h 0) (holding h 1) (holding h 2) (holding h 3) is).0
free_levels h is (suc zero) =
    not_held (held_by h 1) (none_of (holding h 0) (holding h 1) (holding h 2) (holding h 3) is).1
free_levels h is (suc (suc zero)) =
    not_held (held_by h 2) (none_of (holding h 0) (holding h 1) (holding h 2) (holding h 3) is).2
free_levels h is (suc (suc (suc zero))) =
    not_held (held_by h 3) (none_of (holding h 0) (holding h 1) (holding h 2) (holding h 3) is).3
free_levels h is (suc (suc (suc (suc e)))) =
    let le : 4 ≤ suc (suc (suc (suc e))) = omega arith in
    rw (far h.exclusive (suc (suc (suc (suc e)))) le) (rw (far h.shared (suc (suc (suc (suc e)))) le) refl)

-- what is free at each level isn't used
pub unused : (h : Holds) → ((e : ℕ) → held_by h e ≡ Held.Free) → is_used h ≡ false
unused h free = rw (free 0) (rw (free 1) (rw (free 2) (rw (free 3) refl)))

pub no_holds-unused : is_used no_holds ≡ false
no_holds-unused = unused no_holds (λ e. rw (empty e) refl)

-- one of four is true
first_of : (a b c d : Bool) → a ≡ true → (a || b || c || d) ≡ true
first_of a b c d h = grind (arith, nat_tests)

second_of : (a b c d : Bool) → b ≡ true → (a || b || c || d) ≡ true
second_of a b c d h = grind (arith, nat_tests)

third_of : (a b c d : Bool) → c ≡ true → (a || b || c || d) ≡ true
third_of a b c d h = grind (arith, nat_tests)

fourth_of : (a b c d : Bool) → d ≡ true → (a || b || c || d) ≡ true
fourth_of a b c d h = grind (arith, nat_tests)

-- a touched object is used
pub touch-used : (a b : Holds) (d : ℕ) (mode : Mode) → d < 4 →
    ((e : ℕ) → held_by b e ≡ at d (stronger (held_by a d) (held_as mode)) (held_by a) e) →
    is_used b ≡ true
touch-used a b zero mode lt h =
    first_of (holding b 0) (holding b 1) (holding b 2) (holding b 3)
    (ap is_held (h 0) ∙ touched_held (held_by a 0) mode)
touch-used a b (suc zero) mode lt h =
    second_of (holding b 0) (holding b 1) (holding b 2) (holding b 3)
    (ap is_held (h 1) ∙ touched_held (held_by a 1) mode)
touch-used a b (suc (suc zero)) mode lt h =
    third_of (holding b 0) (holding b 1) (holding b 2) (holding b 3)
    (ap is_held (h 2) ∙ touched_held (held_by a 2) mode)
touch-used a b (suc (suc (suc zero))) mode lt h =
    fourth_of (holding b 0) (holding b 1) (holding b 2) (holding b 3)
    (ap is_held (h 3) ∙ touched_held (held_by a 3) mode)
touch-used a b (suc (suc (suc (suc d)))) mode lt h = absurd (omega (arith, lt))

pub merge-used : (a b : Holds) (d : ℕ) → 0 < d → d < 4 →
    ((e : ℕ) → held_by b e ≡ merged d (held_by a) e) → is_used b ≡ is_used a
merge-used a b zero inner lt h = absurd (omega (arith, inner))
merge-used a b (suc zero) inner lt h =
    four (ap is_held (h 0) ∙ held-stronger (held_by a 1) (held_by a 0))
    (ap is_held (h 1)) (ap is_held (h 2)) (ap is_held (h 3))
    ∙ moved_1 (holding a 0) (holding a 1) (holding a 2) (holding a 3)
merge-used a b (suc (suc zero)) inner lt h =
    four (ap is_held (h 0)) (ap is_held (h 1)
    ∙ held-stronger (held_by a 2) (held_by a 1)) (ap is_held (h 2)) (ap is_held (h 3))
    ∙ moved_2 (holding a 0) (holding a 1) (holding a 2) (holding a 3)
merge-used a b (suc (suc (suc zero))) inner lt h =
    four (ap is_held (h 0)) (ap is_held (h 1)) (ap is_held (h 2)
    ∙ held-stronger (held_by a 3) (held_by a 2)) (ap is_held (h 3))
    ∙ moved_3 (holding a 0) (holding a 1) (holding a 2) (holding a 3)
merge-used a b (suc (suc (suc (suc d)))) inner lt h = absurd (omega (arith, lt))

-- what was free at each level is so after a merge or a release
pub merge-free : (d : ℕ) (h : ℕ → Held) → ((e : ℕ) → h e ≡ Held.Free) → (e : ℕ) → merged d h e ≡ Held.Free
merge-free d h free e = rw (free d) (rw (free (d - 1)) (rw (free e) (grind (arith, nat_tests))))

pub release-free : (d : ℕ) (h : ℕ → Held) → ((e : ℕ) → h e ≡ Held.Free) → (e : ℕ) → released d h e ≡ Held.Free
release-free d h free e = rw (free e) (grind (arith, nat_tests))

-- what no level used isn't used after a release
pub release-unused : (a b : Holds) (d : ℕ) → ((e : ℕ) → held_by b e ≡ released d (held_by a) e) →
    is_used a ≡ false → is_used b ≡ false
release-unused a b d h is = unused b (λ e. h e ∙ release-free d (held_by a) (free_levels a is) e)
