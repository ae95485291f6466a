-- How a block gets into a frame of the cache, and what is then done with its frame. A fetch makes
-- at most two disk calls: it reads the block, and writes what the evicted frame held.
use Rattle.std.specs.Prelude.{ℕ, ◌+◌, ◌==◌, Bool, true, false, cond, not, List, [], ◌∷◌, ◌++◌}
use Rattle.std.specs.Prelude.{Option, Some, None, map, filter, length, slice_index, take, drop}
use Rattle.kernel_data.specs.World.{World, Blocks}
use Rattle.kernel_data.specs.Objects.{CacheValue, PolValue, FrameValue, at}
use Rattle.kernel_data.specs.Policies.{or_zero, victim_among}
use Rattle.kernel_model.specs.Meaning.{disk_fails}
use Rattle.kernel_model.specs.Needs.{frame_of_block, free_frame}

-- What a fetch returns: the cache, the disk's blocks and the frame that holds the block, or a
-- failed disk call; and how many disk calls it made.
pub data Fetched : Type 0 where
  Got : CacheValue → Blocks → (frame calls : ℕ) → Fetched
  Failed : (calls : ℕ) → Fetched

-- ---- frames and the order of use

-- a frame becomes the newest
abbrev pub newest : ℕ → List ℕ → List ℕ
newest f fs = filter (λ g. not (g == f)) fs ++ f ∷ []

-- two frames change places in the order of use
abbrev pub swapped : (f g : ℕ) → List ℕ → List ℕ
swapped f g fs = map (λ h. cond (h == f) g (cond (h == g) f h)) fs

-- the cache after a use of frame f
abbrev pub used : ℕ → CacheValue → CacheValue
used f c = record c { lru = newest f c.lru }

-- a frame that was just filled: clean, mark 0
abbrev pub new_frame : (owner block : ℕ) → List ℕ → FrameValue
new_frame p b bytes = record { owner = p; block = b; dirty = false; mark = 0; bytes = bytes }

-- frame f holds this and is the newest
abbrev pub filled : ℕ → FrameValue → CacheValue → CacheValue
filled f value c = record { frame = at f (Some value) c.frame; lru = newest f c.lru }

-- frame f holds this instead of what it held, after it changed places with the candidate g
abbrev pub replaced : (f g : ℕ) → FrameValue → CacheValue → CacheValue
replaced f g value c = filled f value (record c { lru = swapped f g c.lru })

-- ---- a fetch

-- the first number of an answer, or the default
abbrev pub chosen_by : Option (List ℕ) → ℕ → ℕ
chosen_by None default = default
chosen_by (Some answer) default = slice_index answer 0

-- what an evicted frame held is written if it is dirty, by the second disk call; then the cache is
-- this one
abbrev pub evict : Option FrameValue → ℕ → CacheValue → Blocks → List Bool → Fetched
evict None f after blocks io = Got after blocks f 1
evict (Some old) f after blocks io =
    elim old.dirty [
      | false ↦ Got after blocks f 1
      | true ↦ elim (disk_fails io 1) [
        | true ↦ Failed 2
        | false ↦ Got after (at old.block old.bytes blocks) f 2
      ]
    ]

-- where a block that was read goes: into a free frame, or into the chosen one, which is evicted
abbrev pub place_block : Option ℕ → (p b : ℕ) → (chosen candidate : ℕ) → CacheValue → Blocks →
    List Bool → Fetched
place_block (Some f) p b chosen candidate c blocks io =
    Got (filled f (new_frame p b (blocks b)) c) blocks f 1
place_block None p b chosen candidate c blocks io =
    evict (c.frame chosen) chosen (replaced chosen candidate (new_frame p b (blocks b)) c) blocks io

-- a block that no frame holds is read, by the first disk call
abbrev pub read_block : World → PolValue → (p b : ℕ) → Option (List ℕ) → CacheValue → Blocks →
    List Bool → Fetched
read_block v pol p b answer c blocks io =
    let candidate = or_zero (victim_among pol c c.lru) in
    elim (disk_fails io 0) [
      | true ↦ Failed 1
      | false ↦ place_block (free_frame c v.frames 0) p b
          (chosen_by answer candidate) candidate c blocks io
    ]

-- a block that frame f holds, which becomes the newest, or one that is read
abbrev pub fetch_by : Option ℕ → World → PolValue → (p b : ℕ) → Option (List ℕ) → CacheValue →
    Blocks → List Bool → Fetched
fetch_by (Some f) v pol p b answer c blocks io = Got (used f c) blocks f 0
fetch_by None v pol p b answer c blocks io = read_block v pol p b answer c blocks io

-- A block is fetched for process p into the frame that holds it, which becomes the newest;
-- otherwise into the lowest free frame; otherwise into the frame that the answer chooses, which
-- first changes places with the candidate in the order of use and is written to the disk if it is
-- dirty.
abbrev pub fetch : World → PolValue → (p b : ℕ) → Option (List ℕ) → CacheValue → Blocks →
    List Bool → Fetched
fetch v pol p b answer c blocks io = fetch_by (frame_of_block c b) v pol p b answer c blocks io

-- a block that is read ahead: if a frame holds it already, the order of use stays the same
abbrev pub fetch_ahead_by : Option ℕ → World → PolValue → (p b : ℕ) → Option (List ℕ) → CacheValue →
    Blocks → List Bool → Fetched
fetch_ahead_by (Some f) v pol p b answer c blocks io = Got c blocks f 0
fetch_ahead_by None v pol p b answer c blocks io = read_block v pol p b answer c blocks io

-- block b, ahead of a read of process p
abbrev pub fetch_ahead : World → PolValue → (p b : ℕ) → Option (List ℕ) → CacheValue → Blocks →
    List Bool → Fetched
fetch_ahead v pol p b answer c blocks io =
    fetch_ahead_by (frame_of_block c b) v pol p b answer c blocks io

-- ---- the bytes of a frame

-- the bytes of a frame
abbrev pub bytes_of : CacheValue → ℕ → List ℕ
bytes_of c f = elim (c.frame f) [ None ↦ [] | Some r ↦ r.bytes ]

-- bytes with others put at an offset
abbrev pub bytes_with : (off : ℕ) → (new old : List ℕ) → List ℕ
bytes_with off new old = take off old ++ new ++ drop (off + length new) old

-- a frame with these bytes put in, which is then dirty
abbrev pub patched : (off : ℕ) → List ℕ → Option FrameValue → Option FrameValue
patched off new None = None
patched off new (Some f) = Some (record f { dirty = true; bytes = bytes_with off new f.bytes })

-- the cache with bytes put into a frame
abbrev pub with_patch : (f off : ℕ) → List ℕ → CacheValue → CacheValue
with_patch f off new c = record c { frame = at f (patched off new (c.frame f)) c.frame }

-- a frame that was written to the disk
abbrev pub cleaned : ℕ → FrameValue → CacheValue → CacheValue
cleaned f value c = record c { frame = at f (Some (record value { dirty = false })) c.frame }

-- what a frame holds, if it is dirty
abbrev pub dirty_value : Option FrameValue → Option FrameValue
dirty_value None = None
dirty_value (Some value) = cond value.dirty (Some value) None
