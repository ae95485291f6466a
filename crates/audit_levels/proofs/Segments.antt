-- Registers and segments of levels that begin, by place.
use Rattle.std.proofs.Common.{◌≡◌, ℕ, ◌+◌, ◌-◌, ◌<◌, ◌≤◌, ◌&&◌, ◌==◌, Bool, true, false, cond}
use Rattle.std.proofs.Common.{nat_le, zero, suc}
use Rattle.std.proofs.Common.{nat_lt, List, [], ◌∷◌, ◌++◌, length, take, replicate, get_or}
use Rattle.std.proofs.Common.{slice_index, arith, refl, sym, ◌∙◌, ap}
use Rattle.std.proofs.Math.Path.{fun_ext}
use Rattle.std.proofs.lemmas.Bool.{eqb-true}
use Rattle.std.proofs.lemmas.Bool.Decides.{nat_tests}
use Rattle.std.proofs.lemmas.List.{get_or-take, length-take-le, get_or_past, get_or-append_right}
use Rattle.std.proofs.lemmas.List.{get_or_append_left, get_or-replicate, length-replicate, take_all}
use Rattle.std.specs.Prelude.{slice_get}
use Rattle.kernel_model.specs.Policies.{or_zero}
use Rattle.kernel_model.specs.Objects.{at}
use Rattle.kernel_model.specs.Machine.{fed}
use Rattle.audit_table.specs.Tables.{by_place}

-- ---- what a segment is fed

-- a place is among those of so many fed bytes
abbrev pub is_fed : (count i : ℕ) → Bool
is_fed count i = nat_le 2048 i && nat_lt i (2048 + count)

-- what stands at a place, by whether it is among those of the fed bytes
fed_at : (bs : List ℕ) (m : ℕ → ℕ) (x : ℕ) →
    fed bs m x ≡ cond (is_fed (length bs) x) (slice_index bs (x - 2048)) (m x)
fed_at [] m x = by (is_fed 0 x) refl
  where
    by : (b : Bool) → is_fed 0 x ≡ b → m x ≡ cond b (slice_index [] (x - 2048)) (m x)
    by true e = absurd (grind (arith, nat_tests, e))
    by false e = refl
fed_at (b ∷ bs) m x = refl

-- the same for the first bytes
fed_first : (bs : List ℕ) (m : ℕ → ℕ) (k x : ℕ) → k ≤ length bs →
    fed (take k bs) m x ≡ cond (is_fed k x) (slice_index (take k bs) (x - 2048)) (m x)
fed_first bs m k x le =
    fed_at (take k bs) m x
    ∙ ap (λ (n : ℕ). cond (is_fed n x) (slice_index (take k bs) (x - 2048)) (m x)) (length-take-le k bs le)

-- one more byte is fed
pub fed_more : (bs : List ℕ) (i : ℕ) (m : ℕ → ℕ) → i < length bs →
    at (2048 + i) (get_or bs i 0) (fed (take i bs) m) ≡ fed (take (i + 1) bs) m
fed_more bs i m lt = fun_ext (λ x. by x (x == 2048 + i) refl)
  where
    stays : (x : ℕ) → (x == 2048 + i) ≡ false → is_fed (i + 1) x ≡ is_fed i x
    stays x other = grind (arith, nat_tests, other)

    apart : (x : ℕ) (b : Bool) → is_fed i x ≡ b →
        cond b (slice_index (take i bs) (x - 2048)) (m x)
        ≡ cond b (slice_index (take (i + 1) bs) (x - 2048)) (m x)
    apart x true here =
        let below : x - 2048 < i = grind (arith, nat_tests, here) in
        get_or-take i bs (x - 2048) 0 below
        ∙ sym (get_or-take (i + 1) bs (x - 2048) 0 (omega (arith, below)))
    apart x false there = refl

    by : (x : ℕ) (b : Bool) → (x == 2048 + i) ≡ b →
        cond b (get_or bs i 0) (fed (take i bs) m x) ≡ fed (take (i + 1) bs) m x
    by x true is =
        let x_is = eqb-true x (2048 + i) is in
        let here : is_fed (i + 1) x ≡ true = grind (arith, nat_tests, x_is) in
        let place : x - 2048 ≡ i = omega (arith, x_is) in
        sym (fed_first bs m (i + 1) x (omega (arith, lt))
        ∙ ap (λ (b : Bool). cond b (slice_index (take (i + 1) bs) (x - 2048)) (m x)) here
        ∙ ap (λ (n : ℕ). slice_index (take (i + 1) bs) n) place
        ∙ get_or-take (i + 1) bs i 0 (omega arith))
    by x false other =
        fed_first bs m i x (omega (arith, lt)) ∙ apart x (is_fed i x) refl
        ∙ sym (ap (λ (b : Bool). cond b (slice_index (take (i + 1) bs) (x - 2048)) (m x)) (stays x other))
        ∙ sym (fed_first bs m (i + 1) x (omega (arith, lt)))

-- ---- zeros behind bytes

-- zeros are 0 at each place, and so is what is past them
pub zeros : (n i : ℕ) → slice_index (replicate n 0) i ≡ 0
zeros n i = by (nat_lt i n) refl
  where
    by : (b : Bool) → nat_lt i n ≡ b → slice_index (replicate n 0) i ≡ 0
    by true low = let lt : i < n = grind (arith, nat_tests, low) in get_or-replicate n i 0 0 lt
    by false high =
        let le : length (replicate n 0) ≤ i = grind (arith, nat_tests, high, length-replicate) in
        get_or_past (replicate n 0) i 0 le

-- zeros behind bytes are nothing new
pub zeros_behind : (bs : List ℕ) (n : ℕ) → by_place (bs ++ replicate n 0) ≡ by_place bs
zeros_behind bs n = fun_ext (λ x. by x (nat_lt x (length bs)) refl (nat_lt (x - length bs) n) refl)
  where
    by : (x : ℕ) (b : Bool) → nat_lt x (length bs) ≡ b → (d : Bool) → nat_lt (x - length bs) n ≡ d →
        slice_index (bs ++ replicate n 0) x ≡ slice_index bs x
    by x true low d e = let lt : x < length bs = grind (arith, nat_tests, low) in get_or_append_left
        bs (replicate n 0) 0 x lt
    by x false high d e =
        let le : length bs ≤ x = grind (arith, nat_tests, high) in
        get_or-append_right bs (replicate n 0) (length bs) x 0 refl le ∙ zero d e
        ∙ sym (get_or_past bs x 0 le)
      where
        zero : (d : Bool) → nat_lt (x - length bs) n ≡ d → slice_index (replicate n 0) (x - length bs) ≡ 0
        zero d e = zeros n (x - length bs)

-- bytes that are made longer by zeros
pub padded_is : (bs : List ℕ) (n : ℕ) → length bs ≤ n →
    by_place (take n bs ++ replicate (n - length bs) 0) ≡ by_place bs
padded_is bs n le =
    ap (λ (xs : List ℕ). by_place (xs ++ replicate (n - length bs) 0)) (take_all n bs le)
    ∙ zeros_behind bs (n - length bs)

-- bytes by place are the data of an image
pub data_is : (bs : List ℕ) → by_place bs ≡ (λ (i : ℕ). or_zero (slice_get bs i))
data_is bs = fun_ext (λ i. by bs i)
  where
    by : (bs : List ℕ) (i : ℕ) → slice_index bs i ≡ or_zero (slice_get bs i)
    by [] i = refl
    by (b ∷ bs) zero = refl
    by (b ∷ bs) (suc i) = by bs i

-- ---- registers

-- the registers of a level that begins
pub registers_are : (base : ℕ) (args : List ℕ) (zeros : ℕ → ℕ) → ((i : ℕ) → zeros i ≡ 0) →
    at 15 base (at 3 (slice_index args 3)
    (at 2 (slice_index args 2) (at 1 (slice_index args 1) (at 0 (slice_index args 0) zeros))))
    ≡ (λ (r : ℕ). cond (r == 15) base (cond (nat_lt r 4) (slice_index args r) 0))
registers_are base args zeros none = fun_ext (λ r. grind (arith, nat_tests, none r))
