-- The directory in block 0 of a disk, and the sample disk. Block 0 is read once, at boot. It gives
-- a list of 16 entries, some of which are usable.
use Rattle.std.specs.Prelude.{ℕ, zero, suc, ◌+◌, ◌-◌, ◌*◌, ◌%◌, ◌==◌, Bool, true, false, cond, not}
use Rattle.std.specs.Prelude.{◌&&◌, nat_le, List, [], ◌∷◌, ◌++◌, length, slice_range, replicate}
use Rattle.std.specs.Prelude.{take_while, map, filter, codes, Option, None, Some}
use Rattle.std.specs.List.{list_all, list_any, range_with_len}
use Rattle.std.specs.Option.{is_some}
use Rattle.kernel_data.specs.declared.FileRow.{FileRow}
use Rattle.kernel_data.specs.World.{same_bytes}
use Rattle.kernel_data.specs.Bytes.{word_at, word_bytes, is_name_byte}

-- the bytes of entry i of block 0
abbrev pub entry_bytes : List ℕ → ℕ → List ℕ
entry_bytes block i = slice_range block (32 * i) (32 * i + 32)

-- the name of an entry: of its first 16 bytes, those before the first that isn't a byte of a name
abbrev pub entry_name : List ℕ → List ℕ
entry_name entry = take_while is_name_byte (slice_range entry 0 16)

-- what an entry says
unfoldable pub entry_row : List ℕ → FileRow
entry_row entry = record {
  name = entry_name entry;
  start = word_at entry 16;
  blocks = word_at entry 20;
  length = word_at entry 24;
}

-- an entry has this name
abbrev pub has_name : List ℕ → Option FileRow → Bool
has_name name None = false
has_name name (Some r) = same_bytes r.name name

-- an entry has a name, with only zeros after it
abbrev pub is_padded : List ℕ → FileRow → Bool
is_padded entry r = nat_le 1 (length r.name)
    && list_all (λ b. b == 0) (slice_range entry (length r.name) 16)

-- the blocks of a file are on a disk of this size, after block 0, and have room for its length
abbrev pub lies_on_disk : ℕ → FileRow → Bool
lies_on_disk size r = nat_le 1 r.start && nat_le (r.start + r.blocks) size
    && nat_le r.length (512 * r.blocks)

-- an entry with this row is usable on a disk of this size, if these entries come before it
unfoldable pub is_usable : ℕ → List ℕ → FileRow → List (Option FileRow) → Bool
is_usable size entry r earlier = is_padded entry r && lies_on_disk size r
    && not (list_any (has_name r.name) earlier)

-- these entries and one more: its row if it is usable, otherwise nothing
abbrev pub with_entry : ℕ → List ℕ → FileRow → List (Option FileRow) → List (Option FileRow)
with_entry size entry r earlier =
    earlier ++ cond (is_usable size entry r earlier) (Some r) None ∷ []

-- the first n entries
unfoldable pub entries : ℕ → List ℕ → ℕ → List (Option FileRow)
entries size block zero = []
entries size block (suc n) =
    with_entry size (entry_bytes block n) (entry_row (entry_bytes block n)) (entries size block n)

-- the 16 entries of block 0, with nothing for an entry that isn't usable
abbrev pub directory_of : ℕ → List ℕ → List (Option FileRow)
directory_of size block = entries size block 16

-- how many entries are usable
abbrev pub usable_count : List (Option FileRow) → ℕ
usable_count rows = length (filter (λ (r : Option FileRow). is_some r) rows)

-- a disk: how many blocks it has, and the 512 bytes of each
pub record Disk : Type 0 where
  pub size : ℕ
  pub block : ℕ → List ℕ

-- the bytes of an entry with this name, start, number of blocks and length
abbrev pub sample_entry : List ℕ → ℕ → ℕ → ℕ → List ℕ
sample_entry name start blocks length_in_bytes =
    name ++ replicate (16 - length name) 0 ++ word_bytes start ++ word_bytes blocks
    ++ word_bytes length_in_bytes ++ word_bytes 0

-- block 0 of the sample disk
unfoldable pub sample_directory : List ℕ
sample_directory =
    sample_entry (codes "alpha") 1 8 4096 ++ sample_entry (codes "beta") 9 40 20480
    ++ sample_entry (codes "gamma") 49 3 1100
    ++ replicate 416 0

-- byte i of block b of the sample disk, if b is at least 1
abbrev pub sample_byte : ℕ → ℕ → ℕ
sample_byte b i = (31 * b + i) % 256

-- block b of the sample disk
unfoldable pub sample_block : ℕ → List ℕ
sample_block b = elim (b == 0) [
  | true ↦ sample_directory
  | false ↦ map (sample_byte b) (range_with_len 0 512)
]

-- the sample disk, which has 64 blocks and three files
abbrev pub sample_disk : Disk
sample_disk = record { size = 64; block = sample_block }

-- the list of a disk's blocks
abbrev pub blocks_of_disk : Disk → List (List ℕ)
blocks_of_disk d = map d.block (range_with_len 0 d.size)
