-- A *world* is what is fixed once a script has booted: the set-up lines, the disk's size, its
-- directory, and the highest id that a graft may call. The table of images isn't part of it, since
-- `image` lines fill it while calls are in flight.
use Rattle.std.specs.Prelude.{ℕ, suc, ◌+◌, Bool, true, false, nat_eq, List, [], ◌∷◌, Option, Some, None, slice_index_or}
use Rattle.std.specs.Cmp.Lexicographic.{pointwise}
use Rattle.kernel_data.specs.declared.FileRow.{FileRow}
use Rattle.kernel_data.specs.declared.Instr.{Instr}

-- a loaded image
pub record Image : Type 0 where
  pub code : List Instr
  pub body : List ℕ
  -- its grafts keep their segments from one completed graft call to the next
  pub keep : Bool

-- an image of this code and data that keeps nothing
abbrev pub plain_image : List Instr → List ℕ → Image
plain_image code body = record { code = code; body = body; keep = false }

-- the loaded images by slot
abbrev pub ImageTable : Type 0
ImageTable = ℕ → Option Image

-- the bytes of the disk's blocks, by number
abbrev pub Blocks : Type 0
Blocks = ℕ → List ℕ

-- what no call, no graft and no image line changes
pub record World : Type 0 where
  -- how many frames there are
  pub frames : ℕ
  -- for each kind of object, in their order, how many ticks a call waits for it
  pub patience : ℕ → ℕ
  -- how much root has of each kind of amount at first
  pub grant : ℕ
  -- how many blocks the disk has
  pub disk_size : ℕ
  -- the 16 entries of the directory, some of which are usable
  pub directory : List (Option FileRow)
  -- the highest id of the callable list that grafts may call
  pub callable : ℕ

-- the numbers of processes
abbrev pub processes : List ℕ
processes = 0 ∷ 1 ∷ 2 ∷ 3 ∷ 4 ∷ 5 ∷ 6 ∷ 7 ∷ 8 ∷ 9 ∷ 10 ∷ 11 ∷ 12 ∷ 13 ∷ 14 ∷ 15 ∷ []

-- the entry with this number, if it is usable
abbrev pub file_row : World → ℕ → Option FileRow
file_row v n = slice_index_or v.directory n None

-- how many blocks a file has, 0 if it has no usable entry
abbrev pub blocks_of : World → ℕ → ℕ
blocks_of v n = elim (file_row v n) [ None ↦ 0 | Some r ↦ r.blocks ]

-- which block of the disk is block i of a file
abbrev pub block_of : World → ℕ → ℕ → ℕ
block_of v n i = elim (file_row v n) [ None ↦ 0 | Some r ↦ r.start + i ]

-- two texts are the same
abbrev pub same_bytes : List ℕ → List ℕ → Bool
same_bytes xs ys = pointwise nat_eq xs ys

-- the number of the first entry with this name, if the rows are numbered from n
abbrev pub entry_named : List ℕ → ℕ → List (Option FileRow) → Option ℕ
entry_named name n [] = None
entry_named name n (None ∷ rows) = entry_named name (suc n) rows
entry_named name n (Some r ∷ rows) =
    elim (same_bytes r.name name) [ true ↦ Some n | false ↦ entry_named name (suc n) rows ]

-- the number of the usable entry with this name
abbrev pub file_named : World → List ℕ → Option ℕ
file_named v name = entry_named name 0 v.directory
