-- Lists of needs.
use Rattle.std.specs.Prelude.{◌≡◌, ℕ, zero, suc, ◌&&◌, ◌||◌, Bool, true, false, List, [], ◌∷◌, ◌++◌, take}
use Rattle.std.proofs.Common.{refl, ap, ◌∙◌, inl, inr}
use Rattle.kernel_model.specs.declared.Need.{Need}
use Rattle.kernel_model.specs.declared.Object.{Object}
use Rattle.kernel_model.specs.Objects.{same_object}
use Rattle.kernel_model.specs.Alike.{is_exclusive, is_needed, is_needed_exclusively}
use Rattle.graft_laws.proofs.PointLemmas.{or_left, or_right}
use Rattle.call_laws.specs.NeedGrafts.{or_cases}

-- what is needed among the first is needed
pub first_needed : (o : Object) (xs ys : List Need) → is_needed o xs ≡ true → is_needed o (xs ++ ys) ≡ true
first_needed o [] ys h = absurd cc
first_needed o (n ∷ xs) ys h = elim (or_cases (same_object o n.object) (is_needed o xs) h) [
  | inl here ↦ or_left (same_object o n.object) (is_needed o (xs ++ ys)) here
  | inr later ↦ or_right (same_object o n.object) (is_needed o (xs ++ ys)) (first_needed o xs ys later)
]

pub first_taken : (o : Object) (xs ys : List Need) → is_needed_exclusively o xs ≡ true →
    is_needed_exclusively o (xs ++ ys) ≡ true
first_taken o [] ys h = absurd cc
first_taken o (n ∷ xs) ys h =
    elim (or_cases (is_exclusive n.mode && same_object o n.object) (is_needed_exclusively o xs) h) [
      | inl here ↦ or_left (is_exclusive n.mode && same_object o n.object) (is_needed_exclusively o (xs ++ ys)) here
      | inr later ↦ or_right (is_exclusive n.mode && same_object o n.object)
          (is_needed_exclusively o (xs ++ ys)) (first_taken o xs ys later)
    ]

-- what is needed among the first few is needed
pub taken_among : (i : ℕ) (ns : List Need) (o : Object) → is_needed o (take i ns) ≡ true → is_needed o ns ≡ true
taken_among zero ns o h = absurd cc
taken_among (suc i) [] o h = absurd cc
taken_among (suc i) (n ∷ ns) o h = elim (or_cases (same_object o n.object) (is_needed o (take i ns)) h) [
  | inl here ↦ or_left (same_object o n.object) (is_needed o ns) here
  | inr later ↦ or_right (same_object o n.object) (is_needed o ns) (taken_among i ns o later)
]

-- what isn't needed isn't needed exclusively
pub unneeded_free : (o : Object) (ns : List Need) → is_needed o ns ≡ false → is_needed_exclusively o ns ≡ false
unneeded_free o [] h = refl
unneeded_free o (n ∷ ns) h =
    let both = neither (same_object o n.object) (is_needed o ns) h in
    ap (λ b. is_exclusive n.mode && b || is_needed_exclusively o ns) both.0
    ∙ none_by (is_exclusive n.mode) (is_needed_exclusively o ns) (unneeded_free o ns both.1)
  where
    neither : (a b : Bool) → (a || b) ≡ false → (a ≡ false) × (b ≡ false)
    neither true b h = absurd cc
    neither false b h = (refl, h)

    none_by : (a b : Bool) → b ≡ false → (a && false || b) ≡ false
    none_by true b h = h
    none_by false b h = h
