-- What the table of holds says of two calls: what one holds the other doesn't hold exclusively, nor
-- need so where nothing blocks it.
use Rattle.std.specs.Prelude.{◌≡◌, ◌≢◌, ℕ, zero, suc, ◌+◌, ◌<◌, ◌≤◌, ◌==◌, ◌&&◌, ◌||◌, not, Bool}
use Rattle.std.specs.Prelude.{true, false, cond, List, [], ◌∷◌, length, map, find, slice_index_or}
use Rattle.std.specs.Prelude.{option_map, Option, Some, None, is_some, ⊤}
use Rattle.std.specs.List.{AllByRecursion}
use Rattle.std.proofs.Common.{arith, refl, subst, sym, ap, ◌∙◌, inl, inr}
use Rattle.std.proofs.lemmas.Bool.{cases_Bool}
use Rattle.std.proofs.lemmas.Bool.Decides.{nat_tests}
use Rattle.kernel_model.specs.declared.Held.{Held}
use Rattle.kernel_model.specs.declared.Mode.{Mode}
use Rattle.kernel_model.specs.declared.Need.{Need}
use Rattle.kernel_model.specs.declared.Object.{Object}
use Rattle.kernel_model.specs.Objects.{same_object}
use Rattle.kernel_model.specs.SameObject.{same_object_is}
use Rattle.kernel_model.specs.World.{processes}
use Rattle.kernel_model.specs.Meaning.{Meaning}
use Rattle.kernel_model.specs.Locks.{Touched, LockTable, Hindrance, conflicts, is_held}
use Rattle.kernel_model.specs.Locks.{is_held_exclusively, outermost_holding, hinders}
use Rattle.kernel_model.specs.Locks.{lowest_holder, first_hindrance, hindrance_by, user_hindrance}
use Rattle.kernel_model.specs.Locks.{user_of}
use Rattle.kernel_model.specs.Levels.{Level, touched_at, touched_in}
use Rattle.kernel_model.specs.GraftStep.{lock_user}
use Rattle.kernel_model.specs.Kernel.{Kernel}
use Rattle.kernel_model.specs.Blocking.{levels_of, holds, needs, blocker, blocker_from}
use Rattle.kernel_model.specs.InPlace.{is_changed_in}
use Rattle.kernel_model.specs.Sound.{IsSoundKernel, clash}
use Rattle.kernel_model.specs.Alike.{is_exclusive, is_needed_exclusively, is_held_in}
use Rattle.graft_laws.proofs.ShapeLemmas.{contrary}
use Rattle.kernel_laws.proofs.LevelLemmas.{held_so}
use Rattle.call_laws.specs.NeedGrafts.{or_cases}
use Rattle.kernel_laws.proofs.SoundConfigLemmas.{at_top, at_inner}

-- ---- counted lists

-- a list counts up from a number
abbrev pub IsCountedFrom : ℕ → List ℕ → Type 0
IsCountedFrom n [] = ⊤
IsCountedFrom n (x ∷ xs) = (x ≡ n) × IsCountedFrom (suc n) xs

pub processes_counted : IsCountedFrom 0 processes
processes_counted = (
  refl,
  (
    refl,
    (
      refl,
      (
        refl,
        (
          refl,
          (refl, (refl, (refl, (refl, (refl, (refl, (refl, (refl, (refl, (refl, (refl, tt))))))))))),
        ),
      ),
    ),
  ),
)

none_below : {A : Type 0} (k : ℕ) → k < 0 → A
none_below k h = absurd (bad k h)
  where
    bad : (k : ℕ) → k < 0 → ⊥
    bad k h = omega arith

map_counted : {A : Type 0} (f : ℕ → A) (d : A) (xs : List ℕ) (n p : ℕ) → IsCountedFrom n xs →
    p < length xs → slice_index_or (map f xs) p d ≡ f (n + p)
map_counted f d [] n p h low = none_below p low
map_counted f d (x ∷ xs) n zero h low = ap f (h.0 ∙ plus_zero n)
  where
    plus_zero : (n : ℕ) → n ≡ n + 0
    plus_zero n = omega arith
map_counted f d (x ∷ xs) n (suc p) h low =
    map_counted f d xs (suc n) p h.1 (lower p (length xs) low) ∙ ap f (plus_suc n p)
  where
    lower : (p n : ℕ) → suc p < suc n → p < n
    lower p n h = omega arith

    plus_suc : (n p : ℕ) → suc n + p ≡ n + suc p
    plus_suc n p = omega arith

each_counted : (P : ℕ → Type 0) (xs : List ℕ) (n p : ℕ) → IsCountedFrom n xs → AllByRecursion P xs →
    p < length xs → P (n + p)
each_counted P [] n p h each low = none_below p low
each_counted P (x ∷ xs) n zero h each low = subst P (h.0 ∙ plus_zero n) each.0
  where
    plus_zero : (n : ℕ) → n ≡ n + 0
    plus_zero n = omega arith
each_counted P (x ∷ xs) n (suc p) h each low =
    subst P (plus_suc n p) (each_counted P xs (suc n) p h.1 each.1 (lower p (length xs) low))
  where
    lower : (p n : ℕ) → suc p < suc n → p < n
    lower p n h = omega arith

    plus_suc : (n p : ℕ) → suc n + p ≡ n + suc p
    plus_suc n p = omega arith

zero_plus : (p : ℕ) → 0 + p ≡ p
zero_plus p = omega arith

-- ---- the table

-- what the levels of a process's call hold
pub holds_of : (m : Meaning) (k : Kernel) (p d : ℕ) → p < 16 → holds m k p d ≡ touched_at (levels_of m k p) d
holds_of m k p d low =
    ap (λ ls. touched_at ls d) (map_counted (levels_of m k) [] processes 0 p processes_counted low
    ∙ ap (levels_of m k) (zero_plus p))

-- what is held some level holds
level_same : (l : Level) (ls : List Level) (d : ℕ) → d < length ls → touched_at (l ∷ ls) d ≡ touched_at ls d
level_same l ls d low = ap touched_in (at_inner d l ls (differs (length ls) d low))
  where
    differs : (n d : ℕ) → d < n → (n == d) ≡ false
    differs n d h = grind (arith, nat_tests)

top_is : (l : Level) (ls : List Level) → touched_at (l ∷ ls) (length ls) ≡ l.touched
top_is l ls = ap touched_in (at_top (length ls) l ls (is_itself (length ls)))
  where
    is_itself : (n : ℕ) → (n == n) ≡ true
    is_itself n = grind (arith, nat_tests)

pub held_somewhere : (ls : List Level) (o : Object) → is_held_in ls o ≡ true →
    (d : ℕ) × (d < length ls) × (is_held (touched_at ls d o) ≡ true)
held_somewhere [] o h = absurd cc
held_somewhere (l ∷ ls) o h = elim (or_cases (is_held (l.touched o)) (is_held_in ls o) h) [
  | inl here ↦ (length ls, below_suc (length ls), ap (λ (t : Touched). is_held (t o)) (top_is l ls) ∙ here)
  | inr outer ↦ let k = held_somewhere ls o outer in (
    k.0,
    further k.0 (length ls) k.1,
    ap (λ (t : Touched). is_held (t o)) (level_same l ls k.0 k.1) ∙ k.2,
  )
]
  where
    below_suc : (n : ℕ) → n < suc n
    below_suc n = omega arith

    further : (d n : ℕ) → d < n → d < suc n
    further d n h = omega arith

pub changed_somewhere : (ls : List Level) (o : Object) → is_changed_in ls o ≡ true →
    (d : ℕ) × (d < length ls) × (touched_at ls d o ≡ Held.Exclusive)
changed_somewhere [] o h = absurd cc
changed_somewhere (l ∷ ls) o h = elim (or_cases (is_held_exclusively (l.touched o)) (is_changed_in ls o) h) [
  | inl here ↦ (
    length ls,
    below_suc (length ls),
    ap (λ (t : Touched). t o) (top_is l ls)
        ∙ held_so (l.touched o) here,
  )
  | inr outer ↦ let k = changed_somewhere ls o outer in
      (k.0, further k.0 (length ls) k.1, ap (λ (t : Touched). t o) (level_same l ls k.0 k.1) ∙ k.2)
]
  where
    below_suc : (n : ℕ) → n < suc n
    below_suc n = omega arith

    further : (d n : ℕ) → d < n → d < suc n
    further d n h = omega arith

-- ---- two calls

clash_exclusive : (h : Held) → is_held h ≡ true → clash h Held.Exclusive ≡ true
clash_exclusive Held.Free e = absurd cc
clash_exclusive Held.Shared e = refl
clash_exclusive Held.Exclusive e = refl

-- what one call holds another doesn't hold exclusively
pub apart_unchanged : (m : Meaning) (k : Kernel) (p q : ℕ) (o : Object) → IsSoundKernel m k →
    p ≢ q → p < 16 → q < 16 → is_held_in (levels_of m k p) o ≡ true →
    is_changed_in (levels_of m k q) o ≡ false
apart_unchanged m k p q o sound ne plow qlow held = elim (cases_Bool (is_changed_in (levels_of m k q) o)) [
  | inr none ↦ none
  | inl some ↦
      let a = held_somewhere (levels_of m k p) o held in
      let b = changed_somewhere (levels_of m k q) o some in
      contrary (sym (ap (λ (h : Held). clash h (holds m k q b.0 o))
      (ap (λ (t : Touched). t o) (holds_of m k p a.0 plow))
      ∙ ap (λ (h : Held). clash (touched_at (levels_of m k p) a.0 o) h)
      (ap (λ (t : Touched). t o) (holds_of m k q b.0 qlow) ∙ b.2)
      ∙ clash_exclusive (touched_at (levels_of m k p) a.0 o) a.2) ∙ sound.apart p q a.0 b.0 o ne)
]

-- where nothing is found no test passes
none_finds : (test : ℕ → Bool) (qs : List ℕ) → find test qs ≡ None → AllByRecursion (λ q. test q ≡ false) qs
none_finds test [] h = tt
none_finds test (q ∷ qs) h = by_test (test q) refl h (none_finds test qs)
  where
    by_test : (b : Bool) → test q ≡ b → find test (q ∷ qs) ≡ None →
        (find test qs ≡ None → AllByRecursion (λ q. test q ≡ false) qs) →
        (test q ≡ false) × AllByRecursion (λ q. test q ≡ false) qs
    by_test true e h rest = let k = rw e at h in absurd cc
    by_test false e h rest = let k = rw e at h in (e, rest k)

-- nobody hinders a need
pub each_free : (locks : LockTable) (users : ℕ → Option ℕ) (p w : ℕ) (ns : List Need) →
    first_hindrance locks users p w ns ≡ None →
    AllByRecursion (λ (n : Need). lowest_holder locks p n.object n.mode ≡ None) ns
each_free locks users p w [] h = tt
each_free locks users p w (n ∷ ns) h =
    by_holder (lowest_holder locks p n.object n.mode) refl h (each_free locks users p w ns)
  where
    by_user : (x : Option Hindrance) → elim x as (λ _. Option Hindrance) [
      | Some y ↦ Some y
      | None ↦ first_hindrance locks users p w ns
    ] ≡ None → first_hindrance locks users p w ns ≡ None
    by_user None h = h
    by_user (Some y) h = absurd cc

    by_holder : (x : Option ℕ) → lowest_holder locks p n.object n.mode ≡ x →
        elim (hindrance_by users w n x) as (λ _. Option Hindrance) [
          | Some y ↦ Some y
          | None ↦ first_hindrance locks users p w ns
        ] ≡ None →
        (first_hindrance locks users p w ns ≡ None →
        AllByRecursion (λ (n : Need). lowest_holder locks p n.object n.mode ≡ None) ns) →
        (lowest_holder locks p n.object n.mode ≡ None)
        × AllByRecursion (λ (n : Need). lowest_holder locks p n.object n.mode ≡ None) ns
    by_holder None e h rest = (
      e,
      rest (by_user (cond n.by_user (user_hindrance w n.object (user_of users n.object)) None) h),
    )
    by_holder (Some q) e h rest = absurd cc

-- a level of another process doesn't conflict
pub no_conflict : (locks : LockTable) (p q d : ℕ) (o : Object) (mode : Mode) →
    lowest_holder locks q o mode ≡ None → p < 16 → p ≢ q → d < 4 →
    conflicts (locks p d o) mode ≡ false
no_conflict locks p q d o mode h plow ne dlow =
    let each = none_finds (λ i. not (i == q) && hinders o mode (locks i)) processes h in
    let own = subst (λ i. (not (i == q) && hinders o mode (locks i)) ≡ false) (zero_plus p)
    (each_counted (λ i. (not (i == q) && hinders o mode (locks i)) ≡ false) processes 0 p
    processes_counted each plow) in
    let levels = none_finds (λ e. conflicts (locks p e o) mode)
    (0 ∷ 1 ∷ 2 ∷ 3 ∷ []) (nothing (outermost_holding o mode (locks p))
    (second (p == q) (hinders o mode (locks p)) (other p q ne) own)) in
    subst (λ e. conflicts (locks p e o) mode ≡ false) (zero_plus d)
    (each_counted (λ e. conflicts (locks p e o) mode ≡ false) (0 ∷ 1 ∷ 2 ∷ 3 ∷ []) 0 d
    (refl, (refl, (refl, (refl, tt)))) levels dlow)
  where
    other : (p q : ℕ) → p ≢ q → (p == q) ≡ false
    other p q ne = elim (cases_Bool (p == q)) [ inl e ↦ absurd (ne (same p q e)) | inr e ↦ e ]
      where
        same : (p q : ℕ) → (p == q) ≡ true → p ≡ q
        same p q e = grind (arith, nat_tests)

    second : (a b : Bool) → a ≡ false → (not a && b) ≡ false → b ≡ false
    second true b e h = contrary e
    second false b e h = h

    nothing : (x : Option ℕ) → is_some x ≡ false → x ≡ None
    nothing None e = refl
    nothing (Some y) e = contrary e

conflict_free : (h : Held) → is_held h ≡ true → conflicts h Mode.Exclusive ≡ true
conflict_free Held.Free e = absurd cc
conflict_free Held.Shared e = refl
conflict_free Held.Exclusive e = refl

-- what a call holds a step of another that nothing blocks doesn't need exclusively
pub free_unneeded : (m : Meaning) (k : Kernel) (p q : ℕ) (o : Object) → blocker m k q ≡ None →
    p ≢ q → p < 16 → length (levels_of m k p) ≤ 4 → is_held_in (levels_of m k p) o ≡ true →
    is_needed_exclusively o (needs m k q) ≡ false
free_unneeded m k p q o free ne plow few held =
    let a = held_somewhere (levels_of m k p) o held in
    let each = each_free (holds m k) k.objects.things.lock q (lock_user q (levels_of m k q)) (needs m k q)
    (unmapped (first_hindrance (holds m k) k.objects.things.lock q (lock_user q (levels_of m k q))
    (needs m k q)) free) in
    none_needed (needs m k q) (ap (λ (t : Touched). is_held (t o)) (holds_of m k p a.0 plow) ∙ a.2)
    (lower a.0 (length (levels_of m k p)) a.1 few) each
  where
    lower : (d n : ℕ) → d < n → n ≤ 4 → d < 4
    lower d n h k = omega arith

    unmapped : (x : Option Hindrance) → option_map (blocker_from k) x ≡ None → x ≡ None
    unmapped None e = refl
    unmapped (Some h) e = absurd cc

    none_needed : {d : ℕ} (ns : List Need) → is_held (holds m k p d o) ≡ true → d < 4 →
        AllByRecursion (λ (n : Need). lowest_holder (holds m k) q n.object n.mode ≡ None) ns →
        is_needed_exclusively o ns ≡ false
    none_needed [] here low each = refl
    none_needed {d} (n ∷ ns) here low each =
        neither (is_exclusive n.mode && same_object o n.object) (is_needed_exclusively o ns)
        (not_it n.mode (same_object o n.object) refl each.0) (none_needed ns here low each.1)
      where
        neither : (a b : Bool) → a ≡ false → b ≡ false → (a || b) ≡ false
        neither a b e f = ap (λ x. x || b) e ∙ f

        not_it : (mode : Mode) (b : Bool) → same_object o n.object ≡ b →
            lowest_holder (holds m k) q n.object mode ≡ None → (is_exclusive mode && b) ≡ false
        not_it Mode.Shared b e h = refl
        not_it Mode.Exclusive false e h = refl
        not_it Mode.Exclusive true e h =
            contrary (sym (conflict_free (holds m k p d o) here)
            ∙ no_conflict (holds m k) p q d o Mode.Exclusive (subst (λ a. lowest_holder (holds m k)
            q a Mode.Exclusive ≡ None) (sym (same_object_is o n.object e)) h) plow ne low)
