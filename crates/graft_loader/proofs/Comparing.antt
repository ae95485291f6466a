-- Comparing codes byte by byte, without an early end.
use Rattle.std.proofs.Common.{◌≡◌, ℕ, zero, suc, ◌+◌, ◌<◌, Bool, true, false, ◌&&◌, List, [], ◌∷◌}
use Rattle.std.proofs.Common.{length, take, get_or, refl, sym, ap, ◌∙◌, eqb, add-one, arith}
use Rattle.std.specs.Prelude.{bit_or, bit_xor}
use Rattle.std.specs.Int.Bits.{xor_add_and, xor_self, or_zero_l}
use Rattle.std.proofs.lemmas.Nat.{le_or_l, le_or_r, and_le_l, and_le_r}
use Rattle.std.proofs.lemmas.Bool.Decides.{Decides-eqb, same_from_decides}
use Rattle.graft_code.specs.World.{same_bytes}
use Rattle.gm_image.proofs.RoundTrips.{first_true}
use Rattle.gm_image.proofs.RoundTrips.{second_true}
use Rattle.gm_image.proofs.RoundTrips.{both_true}

-- no bit differs so far, nor in these two
none_differ : (d a b : ℕ) → bit_or d (bit_xor a b) ≡ 0 → (d ≡ 0) × (a ≡ b)
none_differ d a b h =
    let both : bit_xor a b ≡ 0 = omega (arith, h, le_or_r d (bit_xor a b)) in (
      omega (arith, h, le_or_l d (bit_xor a b)),
      omega (arith, both, xor_add_and a b, and_le_l a b, and_le_r a b),
    )

-- two that are one differ in no bit
same_differ : (d a b : ℕ) → d ≡ 0 → a ≡ b → bit_or d (bit_xor a b) ≡ 0
same_differ d a b h e = rw (h, e, xor_self) (or_zero_l 0)

and_last : (s : Bool) → (s && true) ≡ s
and_last true = refl
and_last false = refl

and_assoc : (s t u : Bool) → (s && (t && u)) ≡ ((s && t) && u)
and_assoc true t u = refl
and_assoc false t u = refl

-- both tests pass where the joined one does
both_pass : (d a b : ℕ) → eqb (bit_or d (bit_xor a b)) 0 ≡ (eqb d 0 && eqb a b)
both_pass d a b =
    same_from_decides {P = bit_or d (bit_xor a b) ≡ 0} (eqb (bit_or d (bit_xor a b)) 0)
    (eqb d 0 && eqb a b) (Decides-eqb (bit_or d (bit_xor a b)) 0) (
      λ h. same_differ d a b ((Decides-eqb d 0).0 (first_true (eqb d 0) (eqb a b) h))
          ((Decides-eqb a b).0 (second_true (eqb d 0) (eqb a b) h)),
      λ h.
          let n = none_differ d a b h in
          both_true (eqb d 0) (eqb a b) ((Decides-eqb d 0).1 n.0) ((Decides-eqb a b).1 n.1),
    )

-- one more byte of two lists
same_bytes-suc : (xs ys : List ℕ) (i : ℕ) → i < length xs → i < length ys
    → same_bytes (take (suc i) xs) (take (suc i) ys)
    ≡ (same_bytes (take i xs) (take i ys) && eqb (get_or xs i 0) (get_or ys i 0))
same_bytes-suc [] ys i h g = absurd (omega (arith, h))
same_bytes-suc (x ∷ xs) [] i h g = absurd (omega (arith, g))
same_bytes-suc (x ∷ xs) (y ∷ ys) zero h g = and_last (eqb x y)
same_bytes-suc (x ∷ xs) (y ∷ ys) (suc i) h g =
    ap (λ (t : Bool). eqb x y && t) (same_bytes-suc xs ys i (omega (arith, h)) (omega (arith, g)))
    ∙ and_assoc (eqb x y) (same_bytes (take i xs) (take i ys)) (eqb (get_or xs i 0) (get_or ys i 0))

-- one more byte is compared
pub compared_more : (xs ys : List ℕ) (d i : ℕ) → eqb d 0 ≡ same_bytes (take i xs) (take i ys) →
    i < length xs → i < length ys
    → eqb (bit_or d (bit_xor (get_or xs i 0) (get_or ys i 0))) 0 ≡ same_bytes (take (i + 1) xs) (take (i + 1) ys)
compared_more xs ys d i e h g =
    rw add-one (both_pass d (get_or xs i 0) (get_or ys i 0)
    ∙ ap (λ (t : Bool). t && eqb (get_or xs i 0) (get_or ys i 0)) e
    ∙ sym (same_bytes-suc xs ys i h g))
