-- What the pieces of the calls on files do: open, close, read, write and sync.
use Rattle.std.specs.Prelude.{ℕ, zero, suc, ◌+◌, ◌-◌, ◌==◌, Bool, true, false, List, Option, Some}
use Rattle.std.specs.Prelude.{None, Result, Ok, Err, slice_index, slice_range}
use Rattle.kernel_data.specs.declared.SysCall.TheVariants.{Read}
use Rattle.kernel_data.specs.declared.Refusal.{Refusal}
use Rattle.kernel_data.specs.declared.Refusal.TheVariants.{BadFd, NoFile, NoFd, DiskFault}
use Rattle.kernel_data.specs.declared.Reply.{Reply}
use Rattle.kernel_data.specs.declared.Reply.TheVariants.{One}
use Rattle.kernel_data.specs.declared.OpenRow.{OpenRow}
use Rattle.kernel_data.specs.World.{World, Blocks}
use Rattle.kernel_data.specs.Objects.{Objects, Things, CacheValue, at, at2, with_things}
use Rattle.kernel_data.specs.Policies.{ahead_default}
use Rattle.kernel_model.specs.Meaning.{Stage, Piece, After, Continues, EndsWith, Fails, stage, disk_fails}
use Rattle.kernel_model.specs.Needs.{file_block, ahead_block}
use Rattle.kernel_model.specs.Fetch.{Fetched, Got, Failed, fetch, fetch_ahead, bytes_of, with_patch}
use Rattle.kernel_model.specs.Fetch.{cleaned, dirty_value}

-- ---- what pieces leave

-- a piece that makes no disk call and gives no bytes
abbrev pub leaves : Objects → Blocks → After → Piece
leaves s blocks after =
    record { objects = s; blocks = blocks; gave = None; after = after; calls = 0 }

-- a piece that is refused, and leaves everything as it was
abbrev pub refuses : Objects → Blocks → Refusal → Piece
refuses s blocks why = leaves s blocks (Fails why)

-- a piece in which a disk call failed, the last of this many
abbrev pub disk_failed : Objects → Blocks → ℕ → Piece
disk_failed s blocks calls = record (refuses s blocks DiskFault) { calls = calls }

-- the call ends well, with no value
abbrev pub well : After
well = EndsWith Reply.Plain

-- a state with this cache
abbrev pub with_cache : CacheValue → Objects → Objects
with_cache c s = with_things (record (s.things) { cache = c }) s

-- a descriptor gets a file, or becomes free
abbrev pub with_file : (p fd : ℕ) → Option OpenRow → Objects → Objects
with_file p fd o s = with_things (record (s.things) { file = at2 p fd o s.things.file }) s

-- ---- open and close

-- the lowest free descriptor among the n from fd on
abbrev pub free_descriptor : Things → (p n fd : ℕ) → Option ℕ
free_descriptor w p zero fd = None
free_descriptor w p (suc n) fd =
    elim (w.file p fd) [ None ↦ Some fd | Some o ↦ free_descriptor w p n (suc fd) ]

-- a file that was just opened: next 0, window 8, not sequential, nothing ahead
abbrev pub new_file : ℕ → OpenRow
new_file n = record { file = n; next = 0; window = 8; seq = false; start = 0; count = 0 }

-- a file is opened at the lowest free descriptor
abbrev pub open_piece : Objects → ℕ → (file fd : Option ℕ) → Blocks → Piece
open_piece s p None fd blocks = refuses s blocks NoFile
open_piece s p (Some n) None blocks = refuses s blocks NoFd
open_piece s p (Some n) (Some fd) blocks =
    leaves (with_file p fd (Some (new_file n)) s) blocks (EndsWith (One fd))

-- a file is closed; a graft at its point stays
abbrev pub close_piece : Objects → (p fd : ℕ) → Option OpenRow → Blocks → Piece
close_piece s p fd None blocks = refuses s blocks BadFd
close_piece s p fd (Some o) blocks = leaves (with_file p fd None s) blocks well

-- ---- read

-- a count of 0 ends the call
abbrev pub unless_zero : Stage → ℕ → After
unless_zero t zero = well
unless_zero t (suc n) = Continues t

-- an open file after its block i is read: whether that was the next block, and which is the next
-- now
abbrev pub read_on : ℕ → OpenRow → OpenRow
read_on i o = record o { next = i + 1; seq = i == o.next }

-- an open file with these blocks to be read ahead
abbrev pub with_ahead : (start count : ℕ) → OpenRow → OpenRow
with_ahead start count o = record o { start = start; count = count }

-- the first piece, after the block is fetched: its bytes are given
abbrev pub read_first : Objects → Blocks → (p fd i off len : ℕ) → OpenRow → Fetched → Piece
read_first s blocks p fd i off len o (Failed calls) = disk_failed s blocks calls
read_first s blocks p fd i off len o (Got cache after frame calls) =
    record {
      objects = with_file p fd (Some (read_on i o)) (with_cache cache s);
      blocks = after;
      gave = Some (slice_range (bytes_of cache frame) off (off + len));
      after = Continues (stage (Read fd i off len) 1);
      calls = calls;
    }

-- the second piece: the answer becomes what is to be read ahead
abbrev pub read_second : Objects → Blocks → (p fd i off len : ℕ) → OpenRow → ℕ × ℕ → Piece
read_second s blocks p fd i off len o ahead =
    leaves (with_file p fd (Some (with_ahead ahead.0 ahead.1 o)) s) blocks
    (unless_zero (stage (Read fd i off len) 2) ahead.1)

-- a later piece, after a block ahead is fetched
abbrev pub read_third : Objects → Blocks → (p fd i off len : ℕ) → OpenRow → Fetched → Piece
read_third s blocks p fd i off len o (Failed calls) = disk_failed s blocks calls
read_third s blocks p fd i off len o (Got cache after frame calls) =
    record (leaves (with_file p fd (Some (with_ahead (o.start + 1) (o.count - 1) o))
    (with_cache cache s)) after
    (unless_zero (stage (Read fd i off len) 2) (o.count - 1)))
    { calls = calls }

-- the first two numbers of an answer, or the default
abbrev pub ahead_by : Option (List ℕ) → ℕ × ℕ → ℕ × ℕ
ahead_by None default = default
ahead_by (Some a) default = (slice_index a 0, slice_index a 1)

-- the first piece, for the block that it names
abbrev pub read_first_at : Result ℕ Refusal → World → Objects → Blocks → (p fd i off len : ℕ) →
    OpenRow → Option (List ℕ) → List Bool → Piece
read_first_at (Err refusal) v s blocks p fd i off len o answer io = refuses s blocks refusal
read_first_at (Ok b) v s blocks p fd i off len o answer io =
    read_first s blocks p fd i off len o
    (fetch v (s.things.pol 1) p b answer s.things.cache blocks io)

-- a later piece, for the block ahead
abbrev pub read_third_at : Result ℕ Refusal → World → Objects → Blocks → (p fd i off len : ℕ) →
    OpenRow → Option (List ℕ) → List Bool → Piece
read_third_at (Err refusal) v s blocks p fd i off len o answer io = refuses s blocks refusal
read_third_at (Ok b) v s blocks p fd i off len o answer io =
    read_third s blocks p fd i off len o
    (fetch_ahead v (s.things.pol 1) p b answer s.things.cache blocks io)

-- the pieces of a read, by their number
abbrev pub read_piece : ℕ → World → Objects → Blocks → (p fd i off len : ℕ) → Option OpenRow →
    Option (List ℕ) → List Bool → Piece
read_piece n v s blocks p fd i off len None answer io = refuses s blocks BadFd
read_piece zero v s blocks p fd i off len (Some o) answer io =
    read_first_at (file_block v (Some o) i off len) v s blocks p fd i off len o answer io
read_piece (suc zero) v s blocks p fd i off len (Some o) answer io =
    read_second s blocks p fd i off len o
    (ahead_by answer (ahead_default v (s.things.pol 0) (Some o)))
read_piece (suc (suc n)) v s blocks p fd i off len (Some o) answer io =
    read_third_at (ahead_block v (Some o)) v s blocks p fd i off len o answer io

-- ---- write and sync

-- a write, after its block is fetched: the bytes are put into the frame
abbrev pub write_fetched : Objects → Blocks → (off : ℕ) → List ℕ → Fetched → Piece
write_fetched s blocks off new (Failed calls) = disk_failed s blocks calls
write_fetched s blocks off new (Got cache after frame calls) =
    record (leaves (with_cache (with_patch frame off new cache) s) after well) { calls = calls }

-- a write, for the block that it names
abbrev pub write_piece : Result ℕ Refusal → World → Objects → Blocks → (p off : ℕ) → List ℕ →
    Option (List ℕ) → List Bool → Piece
write_piece (Err refusal) v s blocks p off new answer io = refuses s blocks refusal
write_piece (Ok b) v s blocks p off new answer io =
    write_fetched s blocks off new (fetch v (s.things.pol 1) p b answer s.things.cache blocks io)

-- Writes the dirty frames among the n from f on, in order, when this many were written before; each
-- is then clean, and the call answers how many were written in all. If a disk call fails, what was
-- written before stays written.
abbrev pub sync_from : (n f written : ℕ) → Objects → Blocks → List Bool → Piece
sync_from zero f written s blocks io =
    record (leaves s blocks (EndsWith (One written))) { calls = written }
sync_from (suc n) f written s blocks io =
    elim (dirty_value (s.things.cache.frame f)) [
      | None ↦ sync_from n (suc f) written s blocks io
      | Some value ↦ elim (disk_fails io written) [
        | true ↦ disk_failed s blocks (suc written)
        | false ↦ sync_from n (suc f) (suc written) (with_cache (cleaned f value s.things.cache) s)
            (at value.block value.bytes blocks) io
      ]
    ]
