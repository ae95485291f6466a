-- What calls may hold beside each other, and what a call that isn't blocked may hold besides.
use Rattle.std.specs.Prelude.{◌≡◌, ◌≢◌, ℕ, ◌<◌, ◌≤◌, ◌==◌, ◌&&◌, ◌||◌, nat_lt, Bool, true, false}
use Rattle.std.specs.Prelude.{cond, not, List, [], ◌∷◌, length, find, is_some, option_map, Option}
use Rattle.std.specs.Prelude.{Some, None}
use Rattle.std.proofs.Common.{arith, refl, subst, sym, ap, ◌∙◌, inl, inr}
use Rattle.std.proofs.lemmas.Bool.{cases_Bool, eqb-true}
use Rattle.std.proofs.lemmas.Bool.Decides.{nat_tests}
use Rattle.kernel_model.specs.declared.Held.{Held}
use Rattle.kernel_model.specs.declared.Mode.{Mode}
use Rattle.kernel_model.specs.declared.Need.{Need}
use Rattle.kernel_model.specs.declared.Object.{Object}
use Rattle.kernel_model.specs.World.{processes}
use Rattle.kernel_model.specs.Locks.{Touched, Hindrance, conflicts, held_as, stronger}
use Rattle.kernel_model.specs.Locks.{outermost_holding, hinders, lowest_holder, hindrance_by}
use Rattle.kernel_model.specs.Locks.{first_hindrance}
use Rattle.kernel_model.specs.Meaning.{Meaning}
use Rattle.kernel_model.specs.Levels.{Level, Config, level_at, touched_in, touched_at}
use Rattle.kernel_model.specs.GraftStep.{lock_user}
use Rattle.kernel_model.specs.Kernel.{Blocker, Kernel}
use Rattle.kernel_model.specs.Blocking.{levels_in, config_of, levels_of, holds, needs, blocker_from, blocker}
use Rattle.kernel_model.specs.Sound.{IsSoundKernel, clash}
use Rattle.kernel_model.specs.Laws.{Laws}
use Rattle.kernel_laws.specs.Soundness.{HistoriesWork}
use Rattle.graft_laws.proofs.HistoryHoldLemmas.{AllowsHolds, AllOk, NeedsOk}
use Rattle.graft_laws.proofs.UndoneLemmas.{level_none}
use Rattle.graft_laws.proofs.InPlaceLemmas.{is_in, low_stands, row_low, row_high, caller_low}
use Rattle.graft_laws.proofs.SoundCallLemmas.{in_graft, call_comes, call_has_come}
use Rattle.graft_laws.proofs.KernelLemmas.{clash_none}

-- ---- ways to hold beside each other

pub clash_back : (a b : Held) → clash a b ≡ false → clash b a ≡ false
clash_back Held.Free b h = clash_none b
clash_back Held.Shared Held.Free h = refl
clash_back Held.Shared Held.Shared h = refl
clash_back Held.Shared Held.Exclusive h = absurd cc
clash_back Held.Exclusive Held.Free h = refl
clash_back Held.Exclusive Held.Shared h = absurd cc
clash_back Held.Exclusive Held.Exclusive h = absurd cc

clash_stronger : (a b y : Held) → clash a y ≡ false → clash b y ≡ false → clash (stronger a b) y ≡ false
clash_stronger Held.Free b y h k = k
clash_stronger Held.Shared Held.Exclusive y h k = k
clash_stronger Held.Shared Held.Free y h k = h
clash_stronger Held.Shared Held.Shared y h k = h
clash_stronger Held.Exclusive b y h k = h

conflicts_clash : (y : Held) (mode : Mode) → conflicts y mode ≡ false → clash (held_as mode) y ≡ false
conflicts_clash Held.Free Mode.Shared h = refl
conflicts_clash Held.Free Mode.Exclusive h = refl
conflicts_clash Held.Shared Mode.Shared h = refl
conflicts_clash Held.Shared Mode.Exclusive h = absurd cc
conflicts_clash Held.Exclusive mode h = absurd cc

-- ---- depths

pub depth_none : (ls : List Level) (d : ℕ) (o : Object) → length ls ≤ d → touched_at ls d o ≡ Held.Free
depth_none ls d o h = ap (λ x. touched_in x o) (level_none d ls h)

-- what holds at each depth holds of each level
all_from : (Ok : Object → Held → Type 0) → AllowsHolds Ok → (ls : List Level) →
    ((d : ℕ) (o : Object) → Ok o (touched_at ls d o)) → AllOk Ok ls
all_from Ok allows [] h = tt
all_from Ok allows (l ∷ ls) h = (
  λ o. subst (λ (x : Option Level). Ok o (touched_in x o))
      (ap (λ b. elim b as (λ _. Option Level) [ true ↦ Some l | false ↦ level_at (length ls) ls ])
      (is_itself (length ls))) (h (length ls) o),
  all_from Ok allows ls (λ d o. elim (cases_Bool (length ls == d)) [
    | inl top ↦ subst (Ok o) (sym (depth_none ls d o (at_most (length ls) d top))) (allows.free o)
    | inr inner ↦ subst (λ (x : Option Level). Ok o (touched_in x o))
        (ap (λ b. elim b as (λ _. Option Level) [ true ↦ Some l | false ↦ level_at d ls ]) inner)
        (h d o)
  ]),
)
  where
    is_itself : (n : ℕ) → (n == n) ≡ true
    is_itself n = grind (arith, nat_tests)

    at_most : (n d : ℕ) → (n == d) ≡ true → n ≤ d
    at_most n d e = grind (arith, nat_tests)

-- ---- nothing found

-- what a search doesn't find
none_found : (test : ℕ → Bool) (xs : List ℕ) (q : ℕ) → find test xs ≡ None → is_in q xs ≡ true → test q ≡ false
none_found test [] q h stands = absurd cc
none_found test (x ∷ xs) q h stands = elim (cases_Bool (test x)) [
  | inl found ↦ absurd (some_none x (sym (ap (λ b. cond b (Some x) (find test xs)) found) ∙ h))
  | inr other ↦ elim (cases_Bool (x == q)) [
    | inl here ↦ ap test (sym (eqb-true x q here)) ∙ other
    | inr further ↦ none_found test xs q (sym (ap (λ b. cond b (Some x) (find test xs)) other) ∙ h)
        (sym (ap (λ b. b || is_in q xs) further) ∙ stands)
  ]
]
  where
    some_none : (x : ℕ) → Some x ≡ None → ⊥
    some_none x h = cc

-- a depth below four
depth_in : (d : ℕ) → d < 4 → is_in d (0 ∷ 1 ∷ 2 ∷ 3 ∷ []) ≡ true
depth_in d h = grind (arith, nat_tests)

-- what doesn't hinder doesn't conflict at any depth below four
no_conflict : (o : Object) (mode : Mode) (levels : ℕ → Touched) (d : ℕ) →
    hinders o mode levels ≡ false → d < 4 → conflicts (levels d o) mode ≡ false
no_conflict o mode levels d h low =
    none_found (λ d. conflicts (levels d o) mode) (0 ∷ 1 ∷ 2 ∷ 3 ∷ []) d
    (is_none (outermost_holding o mode levels) h) (depth_in d low)
  where
    is_none : (x : Option ℕ) → is_some x ≡ false → x ≡ None
    is_none None h = refl
    is_none (Some y) h = absurd cc

module _ (m : Meaning) (laws : Laws m) (histories : HistoriesWork m) (k : Kernel) (sound : IsSoundKernel m k) where
  -- a way to hold an object that no other call's hold clashes with
  abbrev pub MayHold : ℕ → Object → Held → Type 0
  MayHold p o h = (q e : ℕ) → q ≢ p → clash h (holds m k q e o) ≡ false

  pub may_hold : (p : ℕ) → AllowsHolds (MayHold p)
  may_hold p =
      record {
        free = λ o q e ne. refl;
        both = λ o a b h i q e ne. clash_stronger a b (holds m k q e o) (h q e ne) (i q e ne);
      }

  -- what is held by a number from 16 on, or at a depth from 4 on
  pub holds_high : (q e : ℕ) (o : Object) → 16 ≤ q → holds m k q e o ≡ Held.Free
  holds_high q e o high = ap (λ (ls : List Level). touched_at ls e o) (row_high (levels_of m k) q high)

  pub few_levels : (q : ℕ) → length (levels_of m k q) ≤ 4
  few_levels q = few_by (config_of m k q) refl
    where
      few_by : (x : Option Config) → config_of m k q ≡ x → length (levels_in x) ≤ 4
      few_by None is = omega arith
      few_by (Some c) is =
          let i = in_graft m k q c is in
          (call_has_come m laws histories k sound q c is i
          (call_comes m laws histories k sound q c is i)).shape.most

  holds_deep : (q e : ℕ) (o : Object) → 4 ≤ e → holds m k q e o ≡ Held.Free
  holds_deep q e o deep = elim (cases_Bool (nat_lt q 16)) [
    | inl low ↦ ap (λ (ls : List Level). touched_at ls e o)
        (row_low (levels_of m k) q (below q low)) ∙ depth_none (levels_of m k q) e o
        (at_most (length (levels_of m k q)) e (few_levels q) deep)
    | inr high ↦ holds_high q e o (above q high)
  ]
    where
      below : (q : ℕ) → nat_lt q 16 ≡ true → q < 16
      below q h = grind (arith, nat_tests)

      above : (q : ℕ) → nat_lt q 16 ≡ false → 16 ≤ q
      above q h = grind (arith, nat_tests)

      at_most : (n e : ℕ) → n ≤ 4 → 4 ≤ e → n ≤ e
      at_most n e h k = omega arith

  -- what a call holds it may hold
  pub own_ok : (p : ℕ) → AllOk (MayHold p) (levels_of m k p)
  own_ok p = elim (cases_Bool (nat_lt p 16)) [
    | inl low ↦ all_from (MayHold p) (may_hold p) (levels_of m k p)
        (λ d o q e ne. ap (λ (ls : List Level). clash (touched_at ls d o) (holds m k q e o)) (sym
        (row_low (levels_of m k) p (below p low))) ∙ sound.apart p q d e o (λ i. ne (sym i)))
    | inr high ↦ none_ok (config_of m k p) refl (above p high)
  ]
    where
      below : (q : ℕ) → nat_lt q 16 ≡ true → q < 16
      below q h = grind (arith, nat_tests)

      above : (q : ℕ) → nat_lt q 16 ≡ false → 16 ≤ q
      above q h = grind (arith, nat_tests)

      contrary : (p : ℕ) → p < 16 → 16 ≤ p → ⊥
      contrary p low high = omega arith

      none_ok : (x : Option Config) → config_of m k p ≡ x → 16 ≤ p → AllOk (MayHold p) (levels_in x)
      none_ok None is high = tt
      none_ok (Some c) is high = absurd (contrary p (caller_low m k sound p c is) high)

  -- a need that nobody hinders may be held
  need_ok : (p : ℕ) (n : Need) → lowest_holder (holds m k) p n.object n.mode ≡ None →
      MayHold p n.object (held_as n.mode)
  need_ok p n none q e ne = elim (cases_Bool (nat_lt q 16)) [
    | inr high ↦ ap (clash (held_as n.mode)) (holds_high q e n.object (above q high)) ∙ clash_none (held_as n.mode)
    | inl low ↦ elim (cases_Bool (nat_lt e 4)) [
      | inr deep ↦ ap (clash (held_as n.mode)) (holds_deep q e n.object (far e deep)) ∙ clash_none (held_as n.mode)
      | inl near ↦
          let test = none_found (λ q. not (q == p) && hinders n.object n.mode (holds m k q))
          processes q none (low_stands q (below q low)) in
          conflicts_clash (holds m k q e n.object) n.mode (no_conflict n.object n.mode (holds m k q)
          e (second (q == p) (hinders n.object n.mode (holds m k q)) (differs q p ne) test)
          (close e near))
    ]
  ]
    where
      below : (q : ℕ) → nat_lt q 16 ≡ true → q < 16
      below q h = grind (arith, nat_tests)

      above : (q : ℕ) → nat_lt q 16 ≡ false → 16 ≤ q
      above q h = grind (arith, nat_tests)

      close : (e : ℕ) → nat_lt e 4 ≡ true → e < 4
      close e h = grind (arith, nat_tests)

      far : (e : ℕ) → nat_lt e 4 ≡ false → 4 ≤ e
      far e h = grind (arith, nat_tests)

      differs : (q p : ℕ) → q ≢ p → (q == p) ≡ false
      differs q p ne = grind (arith, nat_tests)

      second : (a b : Bool) → a ≡ false → (not a && b) ≡ false → b ≡ false
      second true b e h = absurd cc
      second false b e h = h

  needs_ok : (p i : ℕ) (users : ℕ → Option ℕ) (ns : List Need) →
      first_hindrance (holds m k) users p i ns ≡ None → NeedsOk (MayHold p) ns
  needs_ok p i users [] h = tt
  needs_ok p i users (n ∷ ns) h = by_holder (lowest_holder (holds m k) p n.object n.mode) refl (needs_ok p i users ns) h
    where
      no_hindrance : (x : Hindrance) → Some x ≡ None → ⊥
      no_hindrance x h = cc

      rest_by : (x : Option Hindrance) → elim x as (λ _. Option Hindrance) [
        | Some h ↦ Some h
        | None ↦ first_hindrance (holds m k) users p i ns
      ] ≡ None →
          first_hindrance (holds m k) users p i ns ≡ None
      rest_by None h = h
      rest_by (Some x) h = absurd (no_hindrance x h)

      by_holder : (x : Option ℕ) → lowest_holder (holds m k) p n.object n.mode ≡ x →
          (first_hindrance (holds m k) users p i ns ≡ None → NeedsOk (MayHold p) ns) →
          elim (hindrance_by users i n x) as (λ _. Option Hindrance) [
            | Some h ↦ Some h
            | None ↦ first_hindrance (holds m k) users p i ns
          ] ≡ None → NeedsOk (MayHold p) (n ∷ ns)
      by_holder (Some q) is more h = absurd (no_hindrance _ h)
      by_holder None is more h = (need_ok p n is, more (rest_by (hindrance_by users i n None) h))

  -- what a call that isn't blocked needs it may hold
  pub unblocked_ok : (p : ℕ) → blocker m k p ≡ None → NeedsOk (MayHold p) (needs m k p)
  unblocked_ok p free =
      needs_ok p (lock_user p (levels_of m k p)) k.objects.things.lock (needs m k p)
      (none_by (first_hindrance (holds m k) k.objects.things.lock p (lock_user p (levels_of m k p)) (needs m k p)) free)
    where
      none_by : (x : Option Hindrance) → option_map (blocker_from k) x ≡ None → x ≡ None
      none_by None h = refl
      none_by (Some y) h = absurd (some_none (blocker_from k y) h)
        where
          some_none : (x : Blocker) → Some x ≡ None → ⊥
          some_none x h = cc
