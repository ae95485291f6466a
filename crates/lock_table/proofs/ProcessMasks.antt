-- Lemmas on masks of processes.
use Rattle.std.proofs.Common.{◌≡◌, ◌≢◌, ℕ, zero, suc, ◌+◌, ◌-◌, ◌*◌, ◌^◌, ◌%◌, ◌<◌, ◌≤◌, Bool}
use Rattle.std.proofs.Common.{true, false, not, ◌&&◌, ◌||◌, ◌==◌, nat_lt, bit_and, bit_or, List}
use Rattle.std.proofs.Common.{[], ◌∷◌, Some, None, find, refl, arith, ◌∙◌, sym, ap}
use Rattle.std.proofs.lemmas.Bool.Decides.{nat_tests}
use Rattle.std.specs.Int.{w16, bit_at, trailing_zeros}
use Rattle.std.proofs.lemmas.Nat.Bits.{bit_at_set_same, bit_at_set_other, bit_at_clear_same}
use Rattle.std.proofs.lemmas.Nat.Bits.{bit_at_clear_other, bit_at-zero, bit_at-trailing_zeros}
use Rattle.kernel_model.specs.World.{processes}
use Rattle.lock_table.specs.Takers.{has_process, HasSome}

-- masks compared bit by bit
same_bit : (m n q : ℕ) → bit_at m q ≡ bit_at n q → has_process m q ≡ has_process n q
unfolding has_process
same_bit m n q h = rw h refl

set_bit : (m q : ℕ) → q < 16 → bit_at m q ≡ 1 → has_process m q ≡ true
unfolding has_process
set_bit m q lt h = rw h (grind (arith, nat_tests))

clear_bit : (m q : ℕ) → bit_at m q ≡ 0 → has_process m q ≡ false
unfolding has_process
clear_bit m q h = rw h (grind (arith, nat_tests))

far : (m q : ℕ) → 16 ≤ q → has_process m q ≡ false
unfolding has_process
far m q le = grind (arith, nat_tests)

-- an empty mask
pub empty : (q : ℕ) → has_process 0 q ≡ false
empty q = clear_bit 0 q (bit_at-zero q)

-- one bit is set
pub has_with : (m p q : ℕ) → p < 16 → has_process (bit_or m (1 * 2 ^ p % 65536)) q ≡ (q == p || has_process m q)
has_with m p q lt = go (q == p) refl
  where
    go : (b : Bool) → (q == p) ≡ b → has_process (bit_or m (1 * 2 ^ p % 65536)) q ≡ (q == p || has_process m q)
    go true h =
        let is : q ≡ p = grind (arith, nat_tests, h) in
        rw is (set_bit (bit_or m (1 * 2 ^ p % 65536)) p lt
        (bit_at_set_same w16 m p (omega (arith, lt))) ∙ grind (arith, nat_tests))
    go false h =
        let other : q ≢ p = λ is. grind (arith, nat_tests, h, is) in
        rw h (same_bit (bit_or m (1 * 2 ^ p % 65536)) m q (bit_at_set_other w16 m p (omega (arith, lt)) q other))

-- one bit is cleared
pub has_without : (m p q : ℕ) → p < 16 →
    has_process (bit_and m (65535 - 1 * 2 ^ p % 65536)) q ≡ (not (q == p) && has_process m q)
has_without m p q lt = go (q == p) (nat_lt q 16) refl refl
  where
    go : (b near : Bool) → (q == p) ≡ b → nat_lt q 16 ≡ near →
        has_process (bit_and m (65535 - 1 * 2 ^ p % 65536)) q ≡ (not (q == p) && has_process m q)
    go true near h i =
        let is : q ≡ p = grind (arith, nat_tests, h) in
        rw is (clear_bit (bit_and m (65535 - 1 * 2 ^ p % 65536)) p
        (bit_at_clear_same w16 m p (omega (arith, lt))) ∙ grind (arith, nat_tests))
    go false true h i =
        let other : q ≢ p = λ is. grind (arith, nat_tests, h, is) in
        rw h (same_bit (bit_and m (65535 - 1 * 2 ^ p % 65536)) m q
        (bit_at_clear_other w16 m p (omega (arith, lt)) q (grind (arith, nat_tests, i)) other))
    go false false h i =
        let le : 16 ≤ q = grind (arith, nat_tests, i) in
        rw h (far _ q le ∙ sym (far m q le))

-- a process without a bit isn't there
pub has_none : (m p q : ℕ) → 16 ≤ p → has_process m q ≡ (not (q == p) && has_process m q)
has_none m p q le = go (q == p) refl
  where
    go : (b : Bool) → (q == p) ≡ b → has_process m q ≡ (not (q == p) && has_process m q)
    go true h =
        let is : q ≡ p = grind (arith, nat_tests, h) in
        rw h (far m q (omega (arith, le, is)))
    go false h = rw h refl

-- ---- the search for the lowest process

-- n numbers from one on
abbrev from_on : (n first : ℕ) → List ℕ
from_on zero first = []
from_on (suc n) first = first ∷ from_on n (first + 1)

-- the first that passes is found
first_found : (f : ℕ → Bool) (n first t : ℕ) → first ≤ t → t < first + n → f t ≡ true →
    ((q : ℕ) → q < t → f q ≡ false) → Some t ≡ find f (from_on n first)
first_found f zero first t le lt passes before = absurd (omega (arith, le, lt))
first_found f (suc n) first t le lt passes before =
    go (first == t) refl
    (λ past. first_found f n (first + 1) t (omega (arith, past)) (omega (arith, lt)) passes before)
  where
    go : (b : Bool) → (first == t) ≡ b → (first < t → Some t ≡ find f (from_on n (first + 1))) →
        Some t ≡ find f (from_on (suc n) first)
    go true h rest =
        let here : first ≡ t = grind (arith, nat_tests, h) in
        rw here (rw passes refl)
    go false h rest =
        let past : first < t = grind (arith, nat_tests, h, le) in
        rw (before first past) (rest past)

none_found : (f : ℕ → Bool) (n first : ℕ) → ((q : ℕ) → f q ≡ false) → None ≡ find f (from_on n first)
none_found f zero first none = refl
none_found f (suc n) first none = rw (none first) (none_found f n (first + 1) none)

pub lowest_found : (mask : ℕ) → 0 < mask → mask < 65536 →
    Some (trailing_zeros w16 mask) ≡ find (has_process mask) processes
lowest_found mask some low =
    let t = bit_at-trailing_zeros w16 mask some low in
    first_found (has_process mask) 16 0 (trailing_zeros w16 mask) (omega arith) t.0
    (set_bit mask (trailing_zeros w16 mask) t.0 t.1)
    (λ q lt. clear_bit mask q (t.2 q lt))

-- a mask that isn't empty has a process
pub some_process : (mask : ℕ) → 0 < mask → mask < 65536 → HasSome mask
some_process mask some low =
    let t = bit_at-trailing_zeros w16 mask some low in
    record { process = trailing_zeros w16 mask; below = t.0; is_there = set_bit mask (trailing_zeros w16 mask) t.0 t.1 }

pub none_lowest : (mask : ℕ) → mask ≡ 0 → None ≡ find (has_process mask) processes
none_lowest mask is = none_found (has_process mask) 16 0 (λ q. ap (λ (m : ℕ). has_process m q) is ∙ empty q)
