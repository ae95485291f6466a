-- The rows of the frames and the memory as one cache of the kernel's state.
use Rattle.std.specs.Prelude.{◌≡◌, ℕ, ◌+◌, ◌*◌, ◌≤◌, true, false, List, Option, IfSome, IfNone, option_map, slice_range}
use Rattle.kernel_data.specs.declared.FrameRow.{FrameRow}
use Rattle.kernel_data.specs.Objects.{FrameValue, CacheValue, PolValue}
use Rattle.kernel_data.specs.Policies.{victim_key, victim_among}
use Rattle.buffer_cache.specs.Frames.{Frames, row_at, in_use}

-- the bytes of frame f
abbrev pub frame_bytes : (memory : List ℕ) → ℕ → List ℕ
frame_bytes memory f = slice_range memory (512 * f) (512 * f + 512)

-- a frame in use, with these bytes
abbrev pub value_with : List ℕ → FrameRow → FrameValue
value_with bytes r =
    record { owner = r.owner; block = r.block; dirty = r.dirty; mark = r.mark; bytes = bytes }

-- what frame f is, if it is in use
abbrev pub frame_value : (memory : List ℕ) → ℕ → Option FrameRow → Option FrameValue
frame_value memory f row = option_map (value_with (frame_bytes memory f)) row

-- the cache of these rows, over this memory
abbrev pub cache_value : Frames → (memory : List ℕ) → CacheValue
cache_value c memory = record { frame = λ f. frame_value memory f (row_at c.rows f); lru = c.order }

-- the frame that a policy evicts of those in use, if there are some
pub record IsCandidate (p : PolValue) (c : CacheValue) (frames : Frames) (answer : Option ℕ) : Type 0 where
  pub value : answer ≡ victim_among p c c.lru
  pub in_cache : IfSome answer (λ f. in_use f frames ≡ true)
  pub none : IfNone answer ((f : ℕ) → in_use f frames ≡ false)

-- no frame has a lesser key than this one
pub record IsLeastKey (p : PolValue) (c : CacheValue) (f : ℕ) : Type 0 where
  pub least : (g : ℕ) → victim_key p c f ≤ victim_key p c g
