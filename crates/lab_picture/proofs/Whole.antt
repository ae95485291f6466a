-- What is kept of a text ends at a space.
use Rattle.std.proofs.Common.{◌≡◌, ◌⊎◌, inl, inr, ℕ, zero, suc, ◌-◌, ◌<◌, ◌≤◌, Bool, true, false, cond, List, []}
use Rattle.std.proofs.Common.{length, take, refl, ap, ◌∙◌, arith}
use Rattle.std.specs.Prelude.{nat_le, slice_index, ◌==◌}
use Rattle.std.proofs.lemmas.Bool.Decides.{nat_tests}
use Rattle.std.proofs.lemmas.List.{length-take-le}
use Rattle.lab_picture.specs.Escapes.{word_end, WordsAreWhole}

-- the place that is found is that of a space, or the beginning
at_space : (text : List ℕ) (n : ℕ) → (word_end text n ≡ 0) ⊎ (slice_index text (word_end text n) ≡ 32)
at_space text zero = inl refl
at_space text (suc n) = by (slice_index text (suc n) == 32) refl (at_space text n)
  where
    by : (b : Bool) → (slice_index text (suc n) == 32) ≡ b
        → (word_end text n ≡ 0) ⊎ (slice_index text (word_end text n) ≡ 32)
        → (cond b (suc n) (word_end text n) ≡ 0)
        ⊎ (slice_index text (cond b (suc n) (word_end text n)) ≡ 32)
    by true is before = inr (grind (arith, nat_tests, is))
    by false is before = before

-- it isn't beyond
within : (text : List ℕ) (n : ℕ) → word_end text n ≤ n
within text zero = omega arith
within text (suc n) = by (slice_index text (suc n) == 32) (within text n)
  where
    by : (b : Bool) → word_end text n ≤ n → cond b (suc n) (word_end text n) ≤ suc n
    by true before = omega arith
    by false before = omega (arith, before)

-- the first bytes up to there
kept : (text : List ℕ) (e : ℕ) → e ≤ length text → (e ≡ 0) ⊎ (slice_index text e ≡ 32)
    → (take e text ≡ []) ⊎ (slice_index text (length (take e text)) ≡ 32)
kept text e inside (inl none) = inl (ap (λ k. take k text) none)
kept text e inside (inr space) = inr (ap (λ k. slice_index text k) (length-take-le e text inside) ∙ space)

pub words-whole : WordsAreWhole
words-whole most text = by (nat_le (length text) most) refl
  where
    by : (b : Bool) → nat_le (length text) most ≡ b
        → (cond b text (take (word_end text (most - 3)) text) ≡ text)
        ⊎ (cond b text (take (word_end text (most - 3)) text) ≡ [])
        ⊎ (slice_index text (length (cond b text (take (word_end text (most - 3)) text))) ≡ 32)
    by true is = inl refl
    by false is =
        let long : most < length text = grind (arith, nat_tests, is) in
        inr (kept text (word_end text (most - 3)) (omega (arith, long, within text (most - 3)))
        (at_space text (most - 3)))
