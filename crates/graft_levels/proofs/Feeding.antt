-- Bytes that a level is fed.
use Rattle.std.proofs.Common.{◌≡◌, ℕ, ◌+◌, ◌-◌, ◌<◌, ◌≤◌, ◌&&◌, Bool, true, false, cond, nat_le}
use Rattle.std.proofs.Common.{nat_lt, List, [], ◌∷◌, ◌++◌, length, take, drop, slice_index}
use Rattle.std.proofs.Common.{slice_get, arith, refl, sym, ◌∙◌, ap, inl, inr, ◌⊎◌}
use Rattle.std.proofs.Math.Path.{fun_ext}
use Rattle.std.proofs.lemmas.Bool.Decides.{nat_tests}
use Rattle.std.proofs.lemmas.List.{get_or_past}
use Rattle.std.proofs.lemmas.Option.{unwrap_or-slice_get}
use Rattle.std.specs.Option.{unwrap_or}
use Rattle.std.specs.Prelude.{Option, Some, None}
use Rattle.kernel_model.specs.Machine.{fed}
use Rattle.kernel_model.specs.Policies.{or_zero}
use Rattle.kernel_model.specs.Runs.{segment_of}
use Rattle.graft_machine.specs.Cpu.{by_place}
use Rattle.graft_levels.proofs.Memory.{copied_within, copied_apart}

-- a place is among those of so many fed bytes
abbrev pub is_fed : (count i : ℕ) → Bool
is_fed count i = nat_le 2048 i && nat_lt i (2048 + count)

-- what stands at a place of a segment, by whether it is among those of the fed bytes
fed_by : (feed : List ℕ) (memory : ℕ → ℕ) (i : ℕ) (b : Bool) → is_fed (length feed) i ≡ b →
    fed feed memory i ≡ cond b (slice_index feed (i - 2048)) (memory i)
fed_by [] memory i true e = absurd (grind (arith, nat_tests, e))
fed_by [] memory i false e = refl
fed_by (x ∷ xs) memory i b e = ap (λ a. cond a (slice_index (x ∷ xs) (i - 2048)) (memory i)) e

-- ---- fed bytes copied in

pub fed_within : (ram next body feed : List ℕ) (base i : ℕ) → base + 4096 ≤ length ram → length feed ≤ 512 → i < 4096 →
    ((k : ℕ) → k < 4096 → slice_index ram (base + k) ≡ slice_index body k) →
    next ≡ take (base + 2048) ram ++ feed ++ drop (base + 2048 + length feed) ram →
    slice_index next (base + i) ≡ fed feed (λ k. slice_index body k) i
fed_within ram next body feed base i le few lt filled is =
    ap (λ xs. slice_index xs (base + i)) is ∙ by_place (is_fed (length feed) i) refl
  where
    put : List ℕ
    put = take (base + 2048) ram ++ feed ++ drop (base + 2048 + length feed) ram

    by_place : (b : Bool) → is_fed (length feed) i ≡ b →
        slice_index put (base + i) ≡ fed feed (λ k. slice_index body k) i
    by_place true e =
        let low : 2048 ≤ i = grind (arith, nat_tests, e) in
        let high : i < 2048 + length feed = grind (arith, nat_tests, e) in
        ap (λ n. slice_index put n) (omega (arith, low))
        ∙ copied_within ram feed (base + 2048) (i - 2048) (omega (arith, le))
        (omega (arith, low, high)) ∙ sym (fed_by feed (λ k. slice_index body k) i true e)
    by_place false e =
        copied_apart ram feed (base + 2048) (base + i) (omega (arith, le, few)) (side
        (nat_lt i 2048) refl) ∙ filled i lt ∙ sym (fed_by feed (λ k. slice_index body k) i false e)
      where
        side : (low : Bool) → nat_lt i 2048 ≡ low → (base + i < base + 2048) ⊎ (base + 2048 + length feed ≤ base + i)
        side true l = let below : i < 2048 = grind (arith, nat_tests, l) in inl (omega (arith, below))
        side false l = let above : 2048 + length feed ≤ i = grind (arith, nat_tests, l, e) in inr (omega (arith, above))

pub fed_apart : (ram next feed : List ℕ) (base a : ℕ) → base + 4096 ≤ length ram →
    length feed ≤ 512 → (a < base) ⊎ (base + 4096 ≤ a) →
    next ≡ take (base + 2048) ram ++ feed ++ drop (base + 2048 + length feed) ram →
    slice_index next a ≡ slice_index ram a
fed_apart ram next feed base a le few (inl below) is =
    ap (λ xs. slice_index xs a) is
    ∙ copied_apart ram feed (base + 2048) a (omega (arith, le, few)) (inl (omega (arith, below)))
fed_apart ram next feed base a le few (inr above) is =
    ap (λ xs. slice_index xs a) is ∙ copied_apart ram feed (base + 2048) a
    (omega (arith, le, few)) (inr (omega (arith, above, few)))

-- ---- a segment that begins

zero_past : (o : Option ℕ) → or_zero o ≡ unwrap_or o 0
zero_past None = refl
zero_past (Some x) = refl

pub byte_of : (body : List ℕ) (i : ℕ) → or_zero (slice_get body i) ≡ slice_index body i
byte_of body i = zero_past (slice_get body i) ∙ unwrap_or-slice_get body i 0

-- a segment that has these bytes, zeros behind them, and the fed bytes
pub segment_is : (mem body feed : List ℕ) (base : ℕ) → length body ≤ 4096 → length feed ≤ 512 →
    ((i : ℕ) → i < 4096 → slice_index mem (base + i) ≡ fed feed (λ k. slice_index body k) i) →
    segment_of base (by_place mem) ≡ fed feed (λ i. slice_index body i)
segment_is mem body feed base few short same = fun_ext (λ i. at_place i (nat_lt i 4096) refl)
  where
    at_place : (i : ℕ) (b : Bool) → nat_lt i 4096 ≡ b →
        cond b (slice_index mem (base + i)) 0 ≡ fed feed (λ k. slice_index body k) i
    at_place i true e = let less : i < 4096 = grind (arith, nat_tests, e) in same i less
    at_place i false e =
        let above : 4096 ≤ i = grind (arith, nat_tests, e) in
        let past : length body ≤ i = omega (arith, few, above) in
        sym (fed_by feed (λ k. slice_index body k) i false (grind (arith, nat_tests, above, short))
        ∙ get_or_past body i 0 past)
