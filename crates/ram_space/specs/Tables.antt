-- Segments by number, each there or not, and how flags and bytes stand for them.
use Rattle.std.specs.Prelude.{◌≡◌, ℕ, ◌+◌, ◌-◌, ◌*◌, ◌≤◌, Bool, true, false, List, [], ◌∷◌, ◌++◌}
use Rattle.std.specs.Prelude.{length, replicate, take, drop, Option, None, Some, option_map}
use Rattle.std.specs.Prelude.{slice_index, slice_index_or}

-- segments by number: the bytes of each that is there
abbrev pub Table : Type 0
Table = List (Option (List ℕ))

-- bytes by place, if there are some
abbrev pub by_place : Option (List ℕ) → Option (ℕ → ℕ)
by_place bytes = option_map slice_index bytes

-- what segment i has by place, if it is there
abbrev pub segment_at : Table → ℕ → Option (ℕ → ℕ)
segment_at t i = by_place (slice_index_or t i None)

-- ---- as flags and bytes

-- bytes, where a flag is set
abbrev pub bytes_if : Bool → List ℕ → Option (List ℕ)
bytes_if true bytes = Some bytes
bytes_if false bytes = None

-- the segments of these flags, whose bytes stand one after the other
abbrev pub table_of : List Bool → List ℕ → Table
table_of [] bytes = []
table_of (flag ∷ flags) bytes = bytes_if flag (take 4096 bytes) ∷ table_of flags (drop 4096 bytes)

-- bytes with zeros behind them, so many in all
abbrev pub padded : ℕ → List ℕ → List ℕ
padded n bytes = bytes ++ replicate (n - length bytes) 0

-- the segments of these flags and the bytes that were needed so far
abbrev pub segments_of : List Bool → List ℕ → Table
segments_of flags bytes = table_of flags (padded (4096 * length flags) bytes)

-- There are at most 256 segments, each with a flag. Of their bytes as many are there as were needed
-- so far: at least those of each segment whose flag is set.
pub record AreSegments (flags : List Bool) (bytes : List ℕ) : Type 0 where
  pub size : length bytes ≤ 4096 * length flags
  pub few : length flags ≤ 256
  pub reached : (i : ℕ) → slice_index_or flags i false ≡ true → 4096 * i + 4096 ≤ length bytes
