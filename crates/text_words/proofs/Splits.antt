-- Texts and their parts.
use Rattle.std.proofs.Common.{◌≡◌, ℕ, zero, suc, ◌+◌, ◌≤◌, Bool, true, false, not, cond, ltb, List}
use Rattle.std.proofs.Common.{[], ◌∷◌, length, take, drop, Option, None, Some, refl, ap, arith}
use Rattle.std.specs.Prelude.{position}
use Rattle.std.specs.List.{slice_split, onto_first, position_or_len}
use Rattle.std.proofs.lemmas.Bool.Decides.{nat_tests}
use Rattle.std.proofs.lemmas.List.Splits.{length-slice_split}
use Rattle.std.proofs.lemmas.List.Sums.{count_by-le-length}

-- a place in a list, if it is there
abbrev within : ℕ → ℕ → Option ℕ
within at n = cond (ltb at n) (Some at) None

-- the parts of a list with one more item in front, which is a separator or isn't
abbrev parts_with : {A : Type 0} → Bool → A → List (List A) → List (List A)
parts_with is x parts = cond is ([] ∷ parts) (onto_first x parts)

-- no separator in front, and none behind
none_by : {A : Type 0} (x : A) (xs : List A) (parts : List (List A)) (at : ℕ) (is : Bool)
    → (within at (length xs) ≡ None → parts ≡ xs ∷ []) → within (cond (not is) (1 + at) 0) (suc (length xs)) ≡ None
    → parts_with is x parts ≡ (x ∷ xs) ∷ []
none_by x xs parts at true later h = absurd (wrong (length xs) h)
  where
    wrong : (n : ℕ) → within 0 (suc n) ≡ None → ⊥
    wrong n g = grind (arith, nat_tests)
none_by x xs parts at false later h = ap (onto_first x) (later (shorter at (length xs) h))
  where
    shorter : (m n : ℕ) → within (1 + m) (suc n) ≡ None → within m n ≡ None
    shorter m n g = grind (arith, nat_tests)

-- a list without a separator is one part
pub slice_split-none : {A : Type 0} (p : A → Bool) (xs : List A) → position p xs ≡ None → slice_split p xs ≡ xs ∷ []
slice_split-none p [] h = refl
slice_split-none p (x ∷ xs) h = none_by x xs (slice_split p xs) (position_or_len p xs) (p x) (slice_split-none p xs) h

-- a separator in front, or one behind
some_by : {A : Type 0} (p : A → Bool) (x : A) (xs : List A) (place at : ℕ) (is : Bool)
    → ((k : ℕ) → within place (length xs) ≡ Some k → slice_split p xs ≡ take k xs ∷ slice_split p (drop (suc k) xs))
    → within (cond (not is) (1 + place) 0) (suc (length xs)) ≡ Some at
    → parts_with is x (slice_split p xs) ≡ take at (x ∷ xs) ∷ slice_split p (drop (suc at) (x ∷ xs))
some_by p x xs place zero true later h = refl
some_by p x xs place (suc at) true later h = absurd (wrong (length xs) at h)
  where
    wrong : (n k : ℕ) → within 0 (suc n) ≡ Some (suc k) → ⊥
    wrong n k g = grind (arith, nat_tests)
some_by p x xs place zero false later h = absurd (before place (length xs) h)
  where
    before : (m n : ℕ) → within (1 + m) (suc n) ≡ Some 0 → ⊥
    before m n g = grind (arith, nat_tests)
some_by p x xs place (suc at) false later h = ap (onto_first x) (later at (shorter place (length xs) at h))
  where
    shorter : (m n k : ℕ) → within (1 + m) (suc n) ≡ Some (suc k) → within m n ≡ Some k
    shorter m n k g = grind (arith, nat_tests)

-- the first part ends at the first separator
pub slice_split-some : {A : Type 0} (p : A → Bool) (xs : List A) (at : ℕ) → position p xs ≡ Some at
    → slice_split p xs ≡ take at xs ∷ slice_split p (drop (suc at) xs)
slice_split-some p [] at h = cc
slice_split-some p (x ∷ xs) at h = some_by p x xs (position_or_len p xs) at (p x) (slice_split-some p xs) h

-- there are at most one more parts than there are bytes
pub few_parts : (p : ℕ → Bool) (xs : List ℕ) → length (slice_split p xs) ≤ length xs + 1
few_parts p xs = omega (arith, length-slice_split p xs, count_by-le-length p xs)
