-- The rows of a kernel in place, by sections: each has so many places, with some rows at each. And
-- the rows that are left from a place on.
use Rattle.std.specs.Prelude.{◌≡◌, ◌<◌, ◌≤◌, ℕ, nat_lt, ◌+◌, ◌-◌, ◌*◌, ◌/◌, ◌%◌, cond, List, []}
use Rattle.std.specs.Prelude.{◌∷◌, ◌++◌, Option, Some, None, IfSome, drop, filter_map, flat_map}
use Rattle.std.specs.Prelude.{length, slice_get}
use Rattle.std.specs.List.{range_with_len}
use Rattle.kernel_model.specs.declared.RawRow.{RawRow}
use Rattle.kernel_model.specs.Objects.{Objects}
use Rattle.kernel_model.specs.Policies.{lives}
use Rattle.kernel_model.specs.RawRows.{acct_row, cells_row, open_row, graft_row, pol_row, frame_row_of, lock_row}
use Rattle.placed_laws.specs.Placed.{Placed}
use Rattle.placed_laws.specs.PlacedRows.{placed_call_row, placed_level_rows, placed_undo_rows}
use Rattle.kernel_core.specs.declared.placed_rows.FoundRow.{FoundRow}
use Rattle.kernel_core.specs.declared.placed_rows.RowPlace.{RowPlace}
use Rattle.kernel_core.specs.declared.placed_rows.Section.{Section}
use Rattle.kernel_core.specs.declared.placed_rows.Section.TheVariants.{Clock, Queue, Accounts}
use Rattle.kernel_core.specs.declared.placed_rows.Section.TheVariants.{Cells, Files, Grafts}
use Rattle.kernel_core.specs.declared.placed_rows.Section.TheVariants.{Policies, Frames, Locks}
use Rattle.kernel_core.specs.declared.placed_rows.Section.TheVariants.{Calls, Levels, Undo}

-- one row, or none
abbrev pub as_list : {A : Type 0} → Option A → List A
as_list None = []
as_list (Some x) = x ∷ []

-- the sections, in their order
abbrev pub sections : List Section
sections = Clock ∷ Queue ∷ Accounts ∷ Cells ∷ Files ∷ Grafts ∷ Policies ∷ Frames ∷ Locks ∷ Calls
    ∷ Levels ∷ Undo ∷ []

-- how many places a section has
abbrev pub places : Section → ℕ
places Clock = 1
places Queue = 1
places Accounts = 16
places Cells = 16
places Files = 64
places Grafts = 256
places Policies = 3
places Frames = 1
places Locks = 16
places Calls = 16
places Levels = 16
places Undo = 16

-- how many rows there are at most at each place
abbrev pub most_at : Section → ℕ
most_at Clock = 1
most_at Queue = 1
most_at Accounts = 1
most_at Cells = 1
most_at Files = 1
most_at Grafts = 1
most_at Policies = 1
most_at Frames = 1
most_at Locks = 1
most_at Calls = 1
most_at Levels = 4
most_at Undo = 64

-- how many rows a section has at most
abbrev pub most_in : Section → ℕ
most_in s = places s * most_at s

-- the row of a process, where it lives
abbrev pub if_lives : Objects → ℕ → RawRow → Option RawRow
if_lives w p row = cond (lives w.things.queue p) (Some row) None

-- the rows at place n of a section
abbrev pub rows_at : Placed → Section → (n : ℕ) → List RawRow
rows_at x Clock n = RawRow.Clock x.clock ∷ []
rows_at x Queue n = RawRow.Queue x.objects.things.queue ∷ []
rows_at x Accounts n = as_list (if_lives x.objects n (acct_row x.objects n))
rows_at x Cells n = as_list (if_lives x.objects n (cells_row x.objects n))
rows_at x Files n = as_list (open_row x.world x.objects (n / 4) (n % 4))
rows_at x Grafts n = as_list (graft_row x.objects (n / 16) (n % 16))
rows_at x Policies n = pol_row x.objects n ∷ []
rows_at x Frames n = RawRow.Lru (filter_map (frame_row_of x.objects) x.objects.things.cache.lru)
    ∷ []
rows_at x Locks n = as_list (lock_row x.objects n)
rows_at x Calls n = as_list (placed_call_row x n)
rows_at x Levels n = placed_level_rows x n
rows_at x Undo n = placed_undo_rows x n

-- the rows of a section
abbrev pub rows_in : Placed → Section → List RawRow
rows_in x s = flat_map (rows_at x s) (range_with_len 0 (places s))

-- the rows of these sections
abbrev pub rows_of : Placed → List Section → List RawRow
rows_of x ss = flat_map (rows_in x) ss

-- the places of a section from the n-th on
abbrev pub places_from : Section → (n : ℕ) → List ℕ
places_from s n = drop n (range_with_len 0 (places s))

-- the rows at these places, but for the first i at the first of them
abbrev pub rows_past : (ℕ → List RawRow) → (i : ℕ) → List ℕ → List RawRow
rows_past rows i [] = []
rows_past rows i (n ∷ ns) = drop i (rows n) ++ flat_map rows ns

-- how many these are, where there are at most m at each place
abbrev pub most_past : (m i : ℕ) → List ℕ → ℕ
most_past m i [] = 0
most_past m i (n ∷ ns) = (m - i) + length ns * m

-- how many rows these sections have at most
abbrev pub most_of : List Section → ℕ
most_of [] = 0
most_of (s ∷ ss) = most_in s + most_of ss

-- the rows from a place on: those of its section, without the ones that came before, and those of
-- the sections behind
unfoldable pub rows_left : Placed → RowPlace → List RawRow
rows_left x at =
    elim (slice_get sections at.section) [
      | None ↦ []
      | Some s ↦ rows_past (rows_at x s) at.index (places_from s at.place)
          ++ rows_of x (drop (at.section + 1) sections)
    ]

-- how many they are at most
unfoldable pub most_left : RowPlace → ℕ
most_left at =
    elim (slice_get sections at.section) [
      | None ↦ 0
      | Some s ↦ most_past (most_at s) at.index (places_from s at.place) + most_of
          (drop (at.section + 1) sections)
    ]

-- The next row was asked for at a place: it is the first of those that were left, if there was one,
-- and from the new place on the rest is left.
pub record TakesRow (x : Placed) (old new : RowPlace) (row : Option RawRow) : Type 0 where
  pub first : row ≡ slice_get (rows_left x old) 0
  pub rest : rows_left x new ≡ drop 1 (rows_left x old)
  -- with a row, fewer can be left than before
  pub fewer : IfSome row (λ _. most_left new < most_left old)

-- On from a place of a section, past places without a row that is left.
pub record IsPassed (x : Placed) (s : Section) (old new : RowPlace) : Type 0 where
  pub section : new.section ≡ old.section
  pub forward : old.place ≤ new.place
  pub within : new.place ≤ places s
  pub same : rows_left x new ≡ rows_left x old
  pub most : most_left new ≤ most_left old

-- behind a row of so many at a place
abbrev pub row_passed : (count : ℕ) → RowPlace → RowPlace
row_passed count at =
    cond (nat_lt (at.index + 1) count) (record at { index = at.index + 1 })
    (record { section = at.section; place = at.place + 1; index = 0 })

-- the row that stands there
abbrev pub row_found : Placed → FoundRow → Option RawRow
row_found x f = slice_get (rows_at x f.section f.place) f.index

-- the row that was found, if one was
abbrev pub row_if_found : Placed → Option FoundRow → Option RawRow
row_if_found x None = None
row_if_found x (Some f) = row_found x f

-- there is a row
pub record IsRow (x : Placed) (f : FoundRow) : Type 0 where
  pub place : f.place < places f.section
  pub index : f.index < length (rows_at x f.section f.place)
  pub few : f.index < most_at f.section
