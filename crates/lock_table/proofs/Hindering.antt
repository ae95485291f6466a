-- Lemmas on whether some level's hold conflicts with a mode.
use Rattle.std.proofs.Common.{◌≡◌, ℕ, zero, suc, ◌<◌, Bool, true, false, cond, ◌||◌, [], ◌∷◌, Some}
use Rattle.std.proofs.Common.{None, find, is_some, refl, arith, ◌∙◌, sym, ap}
use Rattle.std.proofs.lemmas.Bool.Decides.{nat_tests}
use Rattle.kernel_model.specs.declared.Held.{Held}
use Rattle.kernel_model.specs.declared.Mode.{Mode}
use Rattle.kernel_model.specs.Locks.{stronger, conflicts, held_as}
use Rattle.kernel_model.specs.Objects.{at}
use Rattle.lock_table.specs.Masks.{merged}

-- some level's hold conflicts with a mode
abbrev pub hinders : (ℕ → Held) → Mode → Bool
hinders h mode = is_some (find (λ d. conflicts (h d) mode) (0 ∷ 1 ∷ 2 ∷ 3 ∷ []))

-- it is one of the four
one_of : (h : ℕ → Held) (mode : Mode) → hinders h mode
    ≡ (conflicts (h 0) mode || conflicts (h 1) mode || conflicts (h 2) mode || conflicts (h 3) mode)
one_of h mode = go (conflicts (h 0) mode) (conflicts (h 1) mode) (conflicts (h 2) mode) (conflicts (h 3) mode)
  where
    go : (a b c d : Bool) → is_some {T = ℕ} (cond a (Some 0)
        (cond b (Some 1) (cond c (Some 2) (cond d (Some 3) None)))) ≡ (a || b || c || d)
    go true b c d = refl
    go false true c d = refl
    go false false true d = refl
    go false false false true = refl
    go false false false false = refl

pub four : {w x y z w' x' y' z' : Bool} → w ≡ w' → x ≡ x' → y ≡ y' → z ≡ z' → (w || x || y || z) ≡ (w' || x' || y' || z')
four h i j k = cc

-- two ways to hold together
conflicts-stronger : (a b : Held) (mode : Mode) → conflicts (stronger a b) mode ≡ (conflicts a mode || conflicts b mode)
conflicts-stronger Held.Free b mode = refl
conflicts-stronger Held.Shared Held.Free Mode.Shared = refl
conflicts-stronger Held.Shared Held.Free Mode.Exclusive = refl
conflicts-stronger Held.Shared Held.Shared Mode.Shared = refl
conflicts-stronger Held.Shared Held.Shared Mode.Exclusive = refl
conflicts-stronger Held.Shared Held.Exclusive Mode.Shared = refl
conflicts-stronger Held.Shared Held.Exclusive Mode.Exclusive = refl
conflicts-stronger Held.Exclusive b mode = refl

-- levels that hold alike
pub alike_hinder : (g h : ℕ → Held) (mode : Mode) → ((e : ℕ) → g e ≡ h e) → hinders g mode ≡ hinders h mode
alike_hinder g h mode same =
    one_of g mode ∙ four (at_level 0) (at_level 1) (at_level 2) (at_level 3) ∙ sym (one_of h mode)
  where
    at_level : (e : ℕ) → conflicts (g e) mode ≡ conflicts (h e) mode
    at_level e = ap (λ (x : Held). conflicts x mode) (same e)

-- levels that hold nothing
pub free_hinder : (h : ℕ → Held) (mode : Mode) → ((e : ℕ) → h e ≡ Held.Free) → hinders h mode ≡ false
free_hinder h mode free = alike_hinder h (λ e. Held.Free) mode free

-- what a touch adds
added_0 : (a b c d x : Bool) → ((a || x) || b || c || d) ≡ ((a || b || c || d) || x)
added_0 a b c d x = grind (arith, nat_tests)

added_1 : (a b c d x : Bool) → (a || (b || x) || c || d) ≡ ((a || b || c || d) || x)
added_1 a b c d x = grind (arith, nat_tests)

added_2 : (a b c d x : Bool) → (a || b || (c || x) || d) ≡ ((a || b || c || d) || x)
added_2 a b c d x = grind (arith, nat_tests)

added_3 : (a b c d x : Bool) → (a || b || c || (d || x)) ≡ ((a || b || c || d) || x)
added_3 a b c d x = grind (arith, nat_tests)

pub touch_hinders : (g h : ℕ → Held) (d : ℕ) (mode wanted : Mode) → d < 4 →
    ((e : ℕ) → g e ≡ at d (stronger (h d) (held_as mode)) h e) →
    hinders g wanted ≡ (hinders h wanted || conflicts (held_as mode) wanted)
touch_hinders g h d mode wanted lt is =
    one_of g wanted ∙ by d lt is
    ∙ ap (λ (b : Bool). b || conflicts (held_as mode) wanted) (sym (one_of h wanted))
  where
    was : ℕ → Bool
    was e = conflicts (h e) wanted

    more : (e : ℕ) → g e ≡ stronger (h e) (held_as mode) →
        conflicts (g e) wanted ≡ (was e || conflicts (held_as mode) wanted)
    more e k = ap (λ (x : Held). conflicts x wanted) k ∙ conflicts-stronger (h e) (held_as mode) wanted

    same : (e : ℕ) → g e ≡ h e → conflicts (g e) wanted ≡ was e
    same e k = ap (λ (x : Held). conflicts x wanted) k

    by : (d : ℕ) → d < 4 → ((e : ℕ) → g e ≡ at d (stronger (h d) (held_as mode)) h e) →
        (conflicts (g 0) wanted || conflicts (g 1) wanted || conflicts (g 2) wanted || conflicts
        (g 3) wanted) ≡ ((was 0 || was 1 || was 2 || was 3) || conflicts (held_as mode) wanted)
    by zero lt is =
        four (more 0 (is 0)) (same 1 (is 1)) (same 2 (is 2)) (same 3 (is 3))
        ∙ added_0 (was 0) (was 1) (was 2) (was 3) (conflicts (held_as mode) wanted)
    by (suc zero) lt is =
        four (same 0 (is 0)) (more 1 (is 1)) (same 2 (is 2)) (same 3 (is 3))
        ∙ added_1 (was 0) (was 1) (was 2) (was 3) (conflicts (held_as mode) wanted)
    by (suc (suc zero)) lt is =
        four (same 0 (is 0)) (same 1 (is 1)) (more 2 (is 2)) (same 3 (is 3))
        ∙ added_2 (was 0) (was 1) (was 2) (was 3) (conflicts (held_as mode) wanted)
    by (suc (suc (suc zero))) lt is =
        four (same 0 (is 0)) (same 1 (is 1)) (same 2 (is 2)) (more 3 (is 3))
        ∙ added_3 (was 0) (was 1) (was 2) (was 3) (conflicts (held_as mode) wanted)
    by (suc (suc (suc (suc d)))) lt is = absurd (omega (arith, lt))

-- what goes one level outward conflicts as before
pub moved_1 : (a b c d : Bool) → ((b || a) || false || c || d) ≡ (a || b || c || d)
moved_1 a b c d = grind (arith, nat_tests)

pub moved_2 : (a b c d : Bool) → (a || (c || b) || false || d) ≡ (a || b || c || d)
moved_2 a b c d = grind (arith, nat_tests)

pub moved_3 : (a b c d : Bool) → (a || b || (d || c) || false) ≡ (a || b || c || d)
moved_3 a b c d = grind (arith, nat_tests)

pub merge_hinders : (g h : ℕ → Held) (d : ℕ) (mode : Mode) → 0 < d → d < 4 →
    ((e : ℕ) → g e ≡ merged d h e) → hinders g mode ≡ hinders h mode
merge_hinders g h d mode inner lt is = one_of g mode ∙ by d inner lt is ∙ sym (one_of h mode)
  where
    was : ℕ → Bool
    was e = conflicts (h e) mode

    same : (e : ℕ) (x : Held) → g e ≡ x → conflicts (g e) mode ≡ conflicts x mode
    same e x k = ap (λ (x : Held). conflicts x mode) k

    both : (e inner : ℕ) → g e ≡ stronger (h inner) (h e) → conflicts (g e) mode ≡ (was inner || was e)
    both e inner k = same e (stronger (h inner) (h e)) k ∙ conflicts-stronger (h inner) (h e) mode

    by : (d : ℕ) → 0 < d → d < 4 → ((e : ℕ) → g e ≡ merged d h e) →
        (conflicts (g 0) mode || conflicts (g 1) mode || conflicts (g 2) mode
        || conflicts (g 3) mode) ≡ (was 0 || was 1 || was 2 || was 3)
    by zero inner lt is = absurd (omega (arith, inner))
    by (suc zero) inner lt is =
        four (both 0 1 (is 0)) (same 1 Held.Free (is 1)) (same 2 (h 2) (is 2)) (same 3 (h 3) (is 3))
        ∙ moved_1 (was 0) (was 1) (was 2) (was 3)
    by (suc (suc zero)) inner lt is =
        four (same 0 (h 0) (is 0)) (both 1 2 (is 1)) (same 2 Held.Free (is 2)) (same 3 (h 3) (is 3))
        ∙ moved_2 (was 0) (was 1) (was 2) (was 3)
    by (suc (suc (suc zero))) inner lt is =
        four (same 0 (h 0) (is 0)) (same 1 (h 1) (is 1)) (both 2 3 (is 2)) (same 3 Held.Free (is 3))
        ∙ moved_3 (was 0) (was 1) (was 2) (was 3)
    by (suc (suc (suc (suc d)))) inner lt is = absurd (omega (arith, lt))
