-- Of memory an instruction writes its level's own segment, and that of a level that it begins.
use Rattle.std.proofs.Common.{◌≡◌, ℕ, ◌+◌, ◌*◌, List, slice_index, ap, ◌⊎◌, ◌<◌, ◌≤◌}
use Rattle.kernel_model.specs.Levels.{base_of}
use Rattle.graft_machine.specs.Contained.{IsOutside}
use Rattle.graft_levels.specs.declared.GraftLevel.{GraftLevel}
use Rattle.graft_levels.specs.Calls.{HasWrittenBegun, HasWrittenOwn}

-- nothing is written
pub still_begun : (p n : ℕ) (hs : List GraftLevel) (m k : List ℕ) → k ≡ m → HasWrittenBegun p n hs m k
still_begun p n hs m k same = λ a apart. ap (λ (x : List ℕ). slice_index x a) same

pub still_own : (p : ℕ) (gs hs : List GraftLevel) (m k : List ℕ) → k ≡ m → HasWrittenOwn p gs hs m k
still_own p gs hs m k same = λ a out apart. ap (λ (x : List ℕ). slice_index x a) same

-- a place outside the segment of a level, by its base
pub base_outside : (p n base a : ℕ) → base ≡ base_of p n → IsOutside (4 * p + n) a → (a < base) ⊎ (base + 4096 ≤ a)
base_outside p n base a is out = rw is out
