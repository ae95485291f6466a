-- The frames of the cache: what each holds, and the order of use.
use Rattle.std.specs.Prelude.{◌≡◌, ℕ, ◌<◌, ◌≤◌, ◌==◌, Bool, true, false, cond, not, List, [], ◌∷◌}
use Rattle.std.specs.Prelude.{◌++◌, length, map, filter, slice_index_or, slice_set, option_map}
use Rattle.std.specs.Prelude.{Option, Some, None}
use Rattle.std.specs.List.{count_by}
use Rattle.std.specs.Option.{is_some}
use Rattle.kernel_data.specs.declared.FrameRow.{FrameRow}

-- the cache: what each of 64 frames holds, the frames in use, oldest first, and how many frames
-- there are
pub record Frames : Type 0 where
  pub rows : List (Option FrameRow)
  pub order : List ℕ
  pub count : ℕ

-- what frame f holds, if it is in use
abbrev pub row_at : List (Option FrameRow) → ℕ → Option FrameRow
row_at rows f = slice_index_or rows f None

-- frame f is in use
abbrev pub in_use : ℕ → Frames → Bool
in_use f c = is_some (row_at c.rows f)

-- a frame holds this block
abbrev pub holds : ℕ → Option FrameRow → Bool
holds b None = false
holds b (Some r) = r.block == b

-- a frame that was just filled: clean, mark 0
abbrev pub filled_row : (f owner block : ℕ) → FrameRow
filled_row f owner block =
    record { frame = f; owner = owner; block = block; dirty = false; mark = 0 }

-- the order of use with frame f as the newest
abbrev pub newest : ℕ → List ℕ → List ℕ
newest f order = filter (λ g. not (g == f)) order ++ f ∷ []

-- a frame, or the other one of two
abbrev pub exchanged : (f g h : ℕ) → ℕ
exchanged f g h = cond (h == f) g (cond (h == g) f h)

-- the cache where frame f holds this and is the newest
abbrev pub filled : ℕ → FrameRow → Frames → Frames
filled f r c = record c { rows = slice_set c.rows f (Some r); order = newest f c.order }

-- the cache where frame f is the newest
abbrev pub touched : ℕ → Frames → Frames
touched f c = record c { order = newest f c.order }

-- the cache where two frames have changed places in the order of use
abbrev pub swapped : (f g : ℕ) → Frames → Frames
swapped f g c = record c { order = map (exchanged f g) c.order }

-- the cache with a change of what frame f holds
abbrev pub with_row : ℕ → (FrameRow → FrameRow) → Frames → Frames
with_row f change c = record c { rows = slice_set c.rows f (option_map change (row_at c.rows f)) }

-- a row with another owner, if it is that of the process
abbrev pub handed : (from to : ℕ) → FrameRow → FrameRow
handed from to r = cond (r.owner == from) (record r { owner = to }) r

-- the cache where a process owns what another one owned
abbrev pub handed_over : (from to : ℕ) → Frames → Frames
handed_over from to c =
    record c { rows = map (λ (r : Option FrameRow). option_map (handed from to) r) c.rows }

-- how often a frame stands in the order of use
abbrev pub uses : ℕ → List ℕ → ℕ
uses f order = length (filter (λ g. g == f) order)

-- what always holds: the order of use lists the frames in use once each, and no block stands in two
-- frames
pub record IsFrames (c : Frames) : Type 0 where
  pub rows : length c.rows ≡ 64
  pub least : 2 ≤ c.count
  pub most : c.count ≤ 64
  pub once : (f : ℕ) → uses f c.order ≡ cond (in_use f c) 1 0
  pub order : length c.order ≡ count_by (λ (r : Option FrameRow). is_some r) c.rows
  pub below : (f : ℕ) → in_use f c ≡ true → f < c.count
  pub numbered : (f : ℕ) (r : FrameRow) → row_at c.rows f ≡ Some r → r.frame ≡ f
  pub one_frame : (f g : ℕ) (x y : FrameRow) → row_at c.rows f ≡ Some x → row_at c.rows g ≡ Some y →
      x.block ≡ y.block → f ≡ g
