-- The world and the things of a store, and what always holds of them.
use Rattle.std.specs.Prelude.{◌≡◌, ℕ, ◌+◌, ◌*◌, ◌<◌, ◌≤◌, ◌&&◌, nat_lt, true, cond, List, Option}
use Rattle.std.specs.Prelude.{Some, None, slice_index_or}
use Rattle.kernel_data.specs.declared.TheConstants.{LAST_CALLABLE}
use Rattle.kernel_data.specs.declared.FileRow.{FileRow}
use Rattle.kernel_data.specs.declared.OpenRow.{OpenRow}
use Rattle.kernel_data.specs.World.{World, file_row}
use Rattle.kernel_data.specs.Objects.{Things, CacheValue, FrameValue, PolValue}
use Rattle.kernel_data.specs.Directory.{lies_on_disk}
use Rattle.kernel_model.specs.Sound.{IsSoundFile}
use Rattle.ram_space.specs.Tables.{Table, segment_at}
use Rattle.process_table.specs.Processes.{Processes}
use Rattle.kernel_state.specs.declared.Setup.{Setup}

-- what no call changes, on a disk of this size with this directory: grafts may call each id of the
-- list
abbrev pub world_for : Setup → (size : ℕ) → (directory : List (Option FileRow)) → World
world_for u size directory =
    record {
      frames = u.frames;
      patience = λ kind. slice_index_or u.patience kind 10;
      grant = u.grant;
      disk_size = size;
      directory = directory;
      callable = LAST_CALLABLE;
    }

-- A store can begin with this set-up, on a disk of this size with this directory: there are 2 to 64
-- frames and 1 to 4,096 blocks, and each usable file lies on the disk.
pub record CanBoot (u : Setup) (size : ℕ) (directory : List (Option FileRow)) : Type 0 where
  pub frames_least : 2 ≤ u.frames
  pub frames_most : u.frames ≤ 64
  pub size_least : 1 ≤ size
  pub size_most : size ≤ 4096
  pub files : (n : ℕ) (r : FileRow) → slice_index_or directory n None ≡ Some r →
      lies_on_disk size r ≡ true

-- the number of the segment of the graft at (q, pt)
abbrev pub segment_number : (q pt : ℕ) → ℕ
segment_number q pt = 16 * q + pt

-- what is kept for the graft at each point of each process
abbrev pub kept_by : Table → (q pt : ℕ) → Option (ℕ → ℕ)
kept_by kept q pt =
    cond (nat_lt q 16 && nat_lt pt 16) (segment_at kept (segment_number q pt)) None

-- processes, cache, policies and kept segments
abbrev pub things_with : Processes → CacheValue → (ℕ → PolValue) → (kept : Table) → Things
things_with s cache pol kept =
    record {
      cell = s.cell;
      file = s.file;
      queue = s.queue;
      cache = cache;
      lock = s.lock;
      pol = pol;
      segment = kept_by kept;
      handlers = s.handlers;
    }

-- So many frames, a world and the objects besides accounts are within each other: there are the
-- frames of the set-up, each usable file lies on the disk, so does the block of each frame in use,
-- and each open file is a usable one.
pub record StoreFits (count : ℕ) (v : World) (w : Things) : Type 0 where
  pub frames : count ≡ v.frames
  pub some : 1 ≤ v.disk_size
  pub most : v.disk_size ≤ 4096
  pub directory : (n : ℕ) (r : FileRow) → file_row v n ≡ Some r → lies_on_disk v.disk_size r ≡ true
  pub blocks : (f : ℕ) (x : FrameValue) → w.cache.frame f ≡ Some x → x.block < v.disk_size
  pub files : (p fd : ℕ) (o : OpenRow) → w.file p fd ≡ Some o → IsSoundFile v o
