-- A range of memory as a segment.
use Rattle.std.proofs.Common.{◌≡◌, ℕ, ◌+◌, ◌-◌, ◌<◌, ◌≤◌, nat_lt, true, false, cond, List, length}
use Rattle.std.proofs.Common.{drop, Some, slice_index, slice_range, subst, arith, sym, ◌∙◌}
use Rattle.std.proofs.Common.{ap, inl, inr}
use Rattle.std.proofs.Math.Path.{fun_ext}
use Rattle.std.proofs.lemmas.Bool.{cases_lt}
use Rattle.std.proofs.lemmas.Bool.Decides.{nat_tests}
use Rattle.std.proofs.lemmas.List.{get_or-take, get_or-drop, get_or_past}
use Rattle.kernel_model.specs.Runs.{segment_of}
use Rattle.kernel_state.specs.declared.Store.{Store}
use Rattle.kernel_state.specs.Changes.{Changes}
use Rattle.kernel_state.specs.Stores.{with_kept}
use Rattle.ram_space.proofs.Lists.{range_length}

range_at : (xs : List ℕ) (a n i : ℕ) → a + n ≤ length xs →
    slice_index (slice_range xs a (a + n)) i ≡ cond (nat_lt i n) (slice_index xs (a + i)) 0
range_at xs a n i inside =
    elim (cases_lt i n) [
      | inl less ↦
          let among : i < (a + n) - a = omega arith in
          let test : nat_lt i n ≡ true = grind (arith, nat_tests, less) in
          get_or-take ((a + n) - a) (drop a xs) i 0 among ∙ get_or-drop a xs i 0
          ∙ sym (ap (λ b. cond b (slice_index xs (a + i)) 0) test)
      | inr past ↦
          let test : nat_lt i n ≡ false = grind (arith, nat_tests, past) in
          let long = range_length xs a n inside in
          get_or_past (slice_range xs a (a + n)) i 0 (omega (arith, long, past))
          ∙ sym (ap (λ b. cond b (slice_index xs (a + i)) 0) test)
    ]

-- the 4,096 bytes of memory from a place on are the segment there
pub range_kept : (ram bytes : List ℕ) (base : ℕ) → bytes ≡ slice_range ram base (base + 4096) →
    base + 4096 ≤ length ram →
    slice_index bytes ≡ segment_of base (λ a. slice_index ram a)
range_kept ram bytes base is inside = ap slice_index is ∙ fun_ext (λ i. range_at ram base 4096 i inside)

-- a store that keeps them keeps the segment there
pub segment_kept : {B : Type 0} {P : _} (s t : Store B P) (q pt base : ℕ) (bytes : List ℕ) →
    bytes ≡ slice_range s.ram base (base + 4096) → base + 4096 ≤ length s.ram →
    Changes (with_kept q pt (Some (slice_index bytes))) s t →
    Changes (with_kept q pt (Some (segment_of base (λ a. slice_index s.ram a)))) s t
segment_kept s t q pt base bytes is inside kept =
    subst (λ (x : ℕ → ℕ). Changes (with_kept q pt (Some x)) s t) (range_kept s.ram bytes base is inside) kept
