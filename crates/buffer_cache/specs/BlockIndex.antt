-- The index from blocks to frames: an entry for each block that a disk can have.
use Rattle.std.specs.Prelude.{◌≡◌, ℕ, ◌<◌, List, length, slice_index, Option, Some}
use Rattle.kernel_data.specs.declared.FrameRow.{FrameRow}
use Rattle.buffer_cache.specs.Frames.{row_at}

-- The entry of the block of each frame in use is that frame. An entry may name a frame that holds
-- another block by now, or none.
pub record IsIndex (index : List ℕ) (rows : List (Option FrameRow)) : Type 0 where
  pub blocks : length index ≡ 4096
  pub frames : (b : ℕ) → slice_index index b < 64
  pub below : (f : ℕ) (r : FrameRow) → row_at rows f ≡ Some r → r.block < 4096
  pub leads : (f : ℕ) (r : FrameRow) → row_at rows f ≡ Some r → slice_index index r.block ≡ f
