-- Lemmas on masks of levels.
use Rattle.std.proofs.Common.{◌≡◌, ◌≢◌, ℕ, ◌-◌, ◌*◌, ◌^◌, ◌%◌, ◌<◌, ◌≤◌, Bool, true, false, not}
use Rattle.std.proofs.Common.{◌&&◌, ◌||◌, ◌==◌, nat_lt, bit_and, bit_or, refl, arith, ◌∙◌, sym, ap}
use Rattle.std.proofs.Common.{min, max, suc, zero}
use Rattle.std.proofs.lemmas.Bool.Decides.{nat_tests}
use Rattle.std.specs.Int.{w8, bit_at}
use Rattle.std.proofs.lemmas.Nat.Bits.{bit_at_set_same, bit_at_set_other, bit_at_clear_same}
use Rattle.std.proofs.lemmas.Nat.Bits.{bit_at_clear_other, bit_at_and, bit_at_or, bit_at_ones}
use Rattle.std.proofs.lemmas.Nat.Bits.{bit_at_ones_above, bit_at-lt, bit_at-zero}
use Rattle.lock_table.specs.Masks.{has_level}

-- masks compared bit by bit
same_bit : (m n d e : ℕ) → bit_at m e ≡ bit_at n e → has_level m e ≡ has_level n e
unfolding has_level
same_bit m n d e h = rw h refl

set_bit : (m e : ℕ) → e < 4 → bit_at m e ≡ 1 → has_level m e ≡ true
unfolding has_level
set_bit m e lt h = rw h (grind (arith, nat_tests))

clear_bit : (m e : ℕ) → bit_at m e ≡ 0 → has_level m e ≡ false
unfolding has_level
clear_bit m e h = rw h (grind (arith, nat_tests))

pub far : (m e : ℕ) → 4 ≤ e → has_level m e ≡ false
unfolding has_level
far m e le = grind (arith, nat_tests)

-- an empty mask
pub empty : (e : ℕ) → has_level 0 e ≡ false
empty e = clear_bit 0 e (bit_at-zero e)

-- one bit is set
pub has_with : (m d e : ℕ) → d < 4 → has_level (bit_or m (1 * 2 ^ d % 256)) e ≡ (e == d || has_level m e)
has_with m d e lt = go (e == d) refl
  where
    go : (b : Bool) → (e == d) ≡ b → has_level (bit_or m (1 * 2 ^ d % 256)) e ≡ (e == d || has_level m e)
    go true h =
        let is : e ≡ d = grind (arith, nat_tests, h) in
        rw is (set_bit (bit_or m (1 * 2 ^ d % 256)) d lt
        (bit_at_set_same w8 m d (omega (arith, lt))) ∙ grind (arith, nat_tests))
    go false h =
        let other : e ≢ d = λ is. grind (arith, nat_tests, h, is) in
        rw h (same_bit (bit_or m (1 * 2 ^ d % 256)) m d e (bit_at_set_other w8 m d (omega (arith, lt)) e other))

-- one bit is cleared
pub has_without : (m d e : ℕ) → d < 4 →
    has_level (bit_and m (255 - 1 * 2 ^ d % 256)) e ≡ (not (e == d) && has_level m e)
has_without m d e lt = go (e == d) (nat_lt e 4) refl refl
  where
    go : (b near : Bool) → (e == d) ≡ b → nat_lt e 4 ≡ near →
        has_level (bit_and m (255 - 1 * 2 ^ d % 256)) e ≡ (not (e == d) && has_level m e)
    go true near h i =
        let is : e ≡ d = grind (arith, nat_tests, h) in
        rw is (clear_bit (bit_and m (255 - 1 * 2 ^ d % 256)) d
        (bit_at_clear_same w8 m d (omega (arith, lt))) ∙ grind (arith, nat_tests))
    go false true h i =
        let other : e ≢ d = λ is. grind (arith, nat_tests, h, is) in
        rw h (same_bit (bit_and m (255 - 1 * 2 ^ d % 256)) m d e
        (bit_at_clear_other w8 m d (omega (arith, lt)) e (grind (arith, nat_tests, i)) other))
    go false false h i =
        let le : 4 ≤ e = grind (arith, nat_tests, i) in
        rw h (far _ e le ∙ sym (far m e le))

-- the bits from one on are cleared
small : (d : ℕ) → d < 4 → 1 * 2 ^ d % 256 ≡ 2 ^ d
small zero lt = refl
small (suc zero) lt = refl
small (suc (suc zero)) lt = refl
small (suc (suc (suc zero))) lt = refl
small (suc (suc (suc (suc d)))) lt = omega (arith, lt)

at_most_one : (m e : ℕ) → min (bit_at m e) 1 ≡ bit_at m e
at_most_one m e = bounded (bit_at m e) (bit_at-lt m e)
  where
    bounded : (b : ℕ) → b < 2 → min b 1 ≡ b
    bounded b lt = omega (arith, lt)

none : (b : ℕ) → min b 0 ≡ 0
none b = omega arith

pub has_outside : (m d e : ℕ) → d < 4 → has_level (bit_and m (1 * 2 ^ d % 256 - 1)) e ≡ (nat_lt e d && has_level m e)
has_outside m d e lt = rw (small d lt) (go (nat_lt e d) refl)
  where
    go : (b : Bool) → nat_lt e d ≡ b → has_level (bit_and m (2 ^ d - 1)) e ≡ (nat_lt e d && has_level m e)
    go true h =
        let ones = bit_at_ones d e (grind (arith, nat_tests, h)) in
        rw h (same_bit (bit_and m (2 ^ d - 1)) m d e
        (bit_at_and m (2 ^ d - 1) e ∙ ap (min (bit_at m e)) ones ∙ at_most_one m e))
    go false h =
        let zeros = bit_at_ones_above d e (grind (arith, nat_tests, h)) in
        rw h (clear_bit (bit_and m (2 ^ d - 1)) e
        (bit_at_and m (2 ^ d - 1) e ∙ ap (min (bit_at m e)) zeros ∙ none (bit_at m e)))

-- two masks together
either : (near : Bool) (a b : ℕ) → a < 2 → b < 2 → (near && max a b == 1) ≡ ((near && a == 1) || (near && b == 1))
either near a b la lb = grind (arith, nat_tests)

pub has_union : (m n e : ℕ) → has_level (bit_or m n) e ≡ (has_level m e || has_level n e)
unfolding has_level
has_union m n e = rw (bit_at_or m n e) (either (nat_lt e 4) (bit_at m e) (bit_at n e) (bit_at-lt m e) (bit_at-lt n e))
