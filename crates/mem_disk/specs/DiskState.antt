-- The disk in memory, as what it holds.
use Rattle.std.specs.Prelude.{ℕ, ◌+◌, ◌*◌, ◌/◌, cond, List, [], Some, length, map, slice_range}
use Rattle.std.specs.Prelude.{slice_index_or}
use Rattle.std.specs.List.{range_with_len}
use Rattle.vino_base.specs.Faults.{counted}
use Rattle.vino_base.specs.Calls.{Plan, after_call, call_fails}
use Rattle.vino_base.specs.Disks.{DiskSeen}

-- a disk: its blocks, its calls, its count of faults, and the block that was read last
pub record DiskState : Type 0 where
  pub blocks : List (List ℕ)
  pub plan : Plan
  pub faults : ℕ
  pub last : ℕ

-- the block that was read last, as it stands
abbrev pub last_block : DiskState → List ℕ
last_block d = slice_index_or d.blocks d.last []

-- what is seen of a disk in memory, which tells all
abbrev pub disk_seen : DiskState → DiskSeen
disk_seen d =
    record {
      size = length d.blocks;
      known = Some d.blocks;
      plan = Some d.plan;
      faults = d.faults;
    }

-- the bytes of block b, where the blocks of 512 bytes stand one after another
abbrev pub block_in : List ℕ → ℕ → List ℕ
block_in bytes b = slice_range bytes (512 * b) (512 * b + 512)

-- the first blocks of bytes that stand one after another
unfoldable pub blocks_in : List ℕ → ℕ → List (List ℕ)
blocks_in bytes count = map (block_in bytes) (range_with_len 0 count)

-- the whole blocks of bytes
unfoldable pub blocks_of : List ℕ → List (List ℕ)
blocks_of bytes = blocks_in bytes (length bytes / 512)

-- a disk after a call that leaves these blocks where it doesn't fail
abbrev pub disk_after : DiskState → List (List ℕ) → DiskState
disk_after d blocks =
    cond (call_fails d.plan)
    (record d { plan = after_call d.plan; faults = counted d.faults })
    (record d { blocks = blocks; plan = after_call d.plan })
