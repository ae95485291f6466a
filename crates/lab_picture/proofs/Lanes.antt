-- Lanes numbered, process by process.
use Rattle.std.proofs.Common.{◌≡◌, ℕ, ◌+◌, ◌<◌, ◌≤◌, true, false, List, get_or, set, length, arith}
use Rattle.std.proofs.lemmas.Grind.{common_steps}
use Rattle.lab_story.specs.declared.story.Bar.{Bar}
use Rattle.lab_picture.specs.Strips.{has_bar, lane_of, with_bar}

-- the lanes of the first so many processes are numbered, and no other one is
pub record AreNumbered (bars : List Bar) (lanes : List ℕ) (process count : ℕ) : Type 0 where
  pub size : length lanes ≡ 16
  pub counted : count ≡ with_bar bars process
  pub few : count ≤ process
  pub below : (k : ℕ) → k < process → get_or lanes k 0 ≡ lane_of bars k
  pub beyond : (k : ℕ) → process ≤ k → get_or lanes k 0 ≡ 0

-- a process without a bar more
pub without_more : (bars : List Bar) (lanes : List ℕ) (p count : ℕ) → has_bar bars p ≡ false
    → AreNumbered bars lanes p count
    → AreNumbered bars lanes (p + 1) count
without_more bars lanes p count has s = record {
  size = s.size;
  counted = grind (arith, s.counted, has);
  few = grind (arith, s.few);
  below = λ k lt. grind (arith, common_steps, s.below k, s.beyond p, has, lt);
  beyond = λ k le. s.beyond k (grind (arith, le));
}

-- a process with one more
pub with_more : (bars : List Bar) (lanes : List ℕ) (p count : ℕ) → p < 16 → has_bar bars p ≡ true
    → AreNumbered bars lanes p count
    → AreNumbered bars (set lanes p (count + 1)) (p + 1) (count + 1)
with_more bars lanes p count inside has s = record {
  size = grind (arith, common_steps, s.size);
  counted = grind (arith, s.counted, has);
  few = grind (arith, s.few);
  below = λ k lt. grind (arith, common_steps, s.below k, s.counted, s.size, has, lt, inside);
  beyond = λ k le. grind (arith, common_steps, s.beyond k, s.size, le, inside);
}
