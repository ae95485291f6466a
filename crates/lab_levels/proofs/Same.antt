-- Bytes compared one by one.
use Rattle.std.proofs.Common.{◌≡◌, ℕ, zero, suc, ◌+◌, ◌<◌, ◌&&◌, Bool, true, false, List, [], ◌∷◌}
use Rattle.std.proofs.Common.{length, take, arith, refl, sym, ap, ◌∙◌}
use Rattle.std.specs.Prelude.{nat_eq, slice_index}
use Rattle.std.specs.Cmp.Lexicographic.{pointwise, unequal}
use Rattle.std.proofs.lemmas.List.{take_all}

and_true : (p : Bool) → (p && true) ≡ p
and_true true = refl
and_true false = refl

and_assoc : (p q r : Bool) → (p && (q && r)) ≡ ((p && q) && r)
and_assoc true q r = refl
and_assoc false q r = refl

-- one byte more
same_more : (a b : List ℕ) (i : ℕ) → i < length a → i < length b →
    pointwise nat_eq (take (suc i) a) (take (suc i) b)
    ≡ (pointwise nat_eq (take i a) (take i b) && nat_eq (slice_index a i) (slice_index b i))
same_more [] b i h g = absurd (let never : ⊥ = omega (arith, h) in never)
same_more (x ∷ xs) [] i h g = absurd (let never : ⊥ = omega (arith, g) in never)
same_more (x ∷ xs) (y ∷ ys) zero h g = and_true (nat_eq x y)
same_more (x ∷ xs) (y ∷ ys) (suc i) h g =
    ap (λ t. nat_eq x y && t) (same_more xs ys i (omega (arith, h)) (omega (arith, g)))
    ∙ and_assoc (nat_eq x y) (pointwise nat_eq (take i xs) (take i ys))
    (nat_eq (slice_index xs i) (slice_index ys i))

pub same_step : (a b : List ℕ) (i : ℕ) (same : Bool) → i < length a → length a ≡ length b →
    same ≡ pointwise nat_eq (take i a) (take i b) →
    (same && nat_eq (slice_index a i) (slice_index b i))
    ≡ pointwise nat_eq (take (i + 1) a) (take (i + 1) b)
same_step a b i same inside long is =
    ap (λ t. t && nat_eq (slice_index a i) (slice_index b i)) is
    ∙ sym (same_more a b i inside (omega (arith, inside, long)))
    ∙ (let e : suc i ≡ i + 1 = omega arith in ap (λ n. pointwise nat_eq (take n a) (take n b)) e)

-- all bytes
pub same_end : (a b : List ℕ) (same : Bool) → length a ≡ length b →
    same ≡ pointwise nat_eq (take (length a) a) (take (length a) b) → same ≡ pointwise nat_eq a b
same_end a b same long is =
    is
    ∙ ap (λ (t : List ℕ). pointwise nat_eq t (take (length a) b)) (take_all (length a) a (omega arith))
    ∙ ap (λ (t : List ℕ). pointwise nat_eq a t) (take_all (length a) b (omega (arith, long)))

-- bytes of two lengths
pub not_same : (a b : List ℕ) → (length a ≡ length b → ⊥) → false ≡ pointwise nat_eq a b
not_same a b long = sym (unequal nat_eq a b long)
