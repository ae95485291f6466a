-- How a block comes into the cache: what a fetch needs, and what came of it.
use Rattle.std.specs.Prelude.{◌≡◌, ℕ, ◌≤◌, Bool, true, false, List, ◌++◌, length, slice_index}
use Rattle.std.specs.Prelude.{is_some, Option, Result, Ok, Err, IfOk, IfErr}
use Rattle.std.specs.List.{list_any}
use Rattle.std.specs.Option.{IfSome}
use Rattle.kernel_model.specs.World.{World, Blocks}
use Rattle.kernel_model.specs.Objects.{CacheValue}
use Rattle.kernel_model.specs.Meaning.{disk_fails}
use Rattle.kernel_model.specs.Policies.{lives, or_zero, victim_among}
use Rattle.kernel_model.specs.Needs.{free_frame}
use Rattle.kernel_model.specs.Fetch as fetches
use Rattle.kernel_model.specs.Fetch.{Fetched, Got, Failed, new_frame, replaced, read_block, place_block, chosen_by}
use Rattle.kernel_model.specs.FilePieces.{with_cache}
use Rattle.kernel_model.specs.Sound.{HasWholeBlocks}
use Rattle.kernel_state.specs.Frames.{in_use}
use Rattle.kernel_state.specs.declared.Failed.{Failed as DiskFailed}
use Rattle.kernel_state.specs.Disks.{DiskSeen}
use Rattle.kernel_state.specs.Calls.{Knows, CallsExtend}
use Rattle.kernel_state.specs.declared.Store.{Store}
use Rattle.kernel_state.specs.Stores.{world_of_store, objects_of, cache_of, queue_of, policies_of, SegmentsStay}

-- ---- moments

-- a store, a disk, and the calls of the disk that were made
pub record StoreMoment (S : Type 0) : Type 0 where
  pub store : S
  pub disk : DiskSeen
  pub log : List Bool

-- the moment of these three
abbrev pub store_moment : {S : Type 0} → S → DiskSeen → List Bool → StoreMoment S
store_moment store disk log = record { store = store; disk = disk; log = log }

-- ---- what came of a fetch

-- the blocks after a fetch, where they were these
abbrev pub blocks_after : Fetched → Blocks → Blocks
blocks_after (Got cache after frame calls) blocks = after
blocks_after (Failed calls) blocks = blocks

-- a fetch that left this cache and these blocks, with so many calls of the disk: it gave a frame or
-- failed
abbrev pub fetched_so : Result ℕ DiskFailed → CacheValue → Blocks → ℕ → Fetched
fetched_so (Ok f) cache blocks calls = Got cache blocks f calls
fetched_so (Err e) cache blocks calls = Failed calls

-- a fetch left this cache, and so many calls of the disk were made: as the definitions' fetch has
-- it
abbrev pub FetchLeft : Fetched → Blocks → Result ℕ DiskFailed → CacheValue → ℕ → Type 0
FetchLeft q blocks result cache calls = fetched_so result cache (blocks_after q blocks) calls ≡ q

-- a fetch left this cache, the disk tells this, and so many calls were made: all as the
-- definitions' fetch has it
pub record FetchMatches (q : Fetched) (blocks : Blocks) (result : Result ℕ DiskFailed)
    (cache : CacheValue) (known : Option (List (List ℕ))) (calls : ℕ) : Type 0 where
  pub outcome : FetchLeft q blocks result cache calls
  pub tells : Knows known (blocks_after q blocks)

-- so it is with a fetch for some whole blocks, where these calls of the disk were made
pub record FetchMatchesSome (v : World) (fetch : Blocks → List Bool →
    Fetched) (result : Result ℕ DiskFailed)
    (cache : CacheValue) (io : List Bool) : Type 0 where
  pub blocks : Blocks
  pub whole : HasWholeBlocks v blocks
  pub outcome : (rest : List Bool) →
      FetchLeft (fetch blocks (io ++ rest)) blocks result cache (length io)

-- one of these calls of the disk failed
abbrev pub has_failed : List Bool → Bool
has_failed io = list_any (λ failed. failed) io

-- ---- fetches of a store

-- an answer names a frame in use
abbrev pub NamesFrame : {B : Type 0} {P : _} → Store B P → Option (List ℕ) → Type 0
NamesFrame s answer = IfSome answer (λ a. is_some ((cache_of s).frame (slice_index a 0)) ≡ true)

-- a block may be fetched for process p with this answer, once these calls of the disk were made
pub record FetchReady {B : Type 0} {P : _} (m : StoreMoment (Store B P)) (p : ℕ)
    (answer : Option (List ℕ)) (calls : List Bool) : Type 0 where
  pub alive : lives (queue_of m.store) p ≡ true
  pub disk : m.store.size ≡ m.disk.size
  pub right : NamesFrame m.store answer
  pub made : m.log ≡ calls

-- A fetch changes the cache alone, and nothing where it fails, which it does only where a call of
-- the disk failed; the frame that it gives is in use.
pub record FetchKeeps {B : Type 0} {P : _} (old new : Store B P)
    (result : Result ℕ DiskFailed) (log : List Bool) : Type 0 where
  pub objects : objects_of new ≡ with_cache (cache_of new) (objects_of old)
  pub in_cache : IfOk result (λ f. in_use f new.cache ≡ true)
  pub kept : IfErr result (λ _. objects_of new ≡ objects_of old)
  pub failed : IfErr result (λ _. has_failed log ≡ true)
  pub few : length log ≤ 256
  pub world : world_of_store new ≡ world_of_store old
  pub memory : SegmentsStay old.ram new.ram

-- A fetch came out as the definitions have it, where the disk told its blocks before and tells them
-- after, and these calls of it were made, whatever the calls after them do.
abbrev pub FetchCameBy : (fetch : Blocks → List Bool →
    Fetched) (before after : Option (List (List ℕ)))
    (result : Result ℕ DiskFailed) (cache : CacheValue) (log : List Bool) → Type 0
FetchCameBy fetch before after result cache log =
    (blocks : Blocks) (rest : List Bool) → Knows before blocks →
    FetchMatches (fetch blocks (log ++ rest)) blocks result cache after (length log)

-- A fetch took the one moment to the other: over the blocks that the disk told, or else over some
-- whole ones, as the definitions have it. The log goes on with the calls of the disk that it made.
pub record FetchDone {B : Type 0} {P : _} (fetch : Blocks → List Bool → Fetched)
    (old new : StoreMoment (Store B P)) (result : Result ℕ DiskFailed) : Type 0 where
  pub does : FetchCameBy fetch old.disk.known new.disk.known result (cache_of new.store) new.log
  pub some : FetchMatchesSome (world_of_store old.store) fetch result (cache_of new.store) new.log
  pub keeps : FetchKeeps old.store new.store result new.log
  pub calls : CallsExtend old.disk new.disk old.log new.log

-- the same of what follows the read of the block, of which all is said over whatever blocks `Holds`
-- is true of
pub record PlaceDone {B : Type 0} {P : _} (place : Blocks → List Bool → Fetched)
    (Holds : Blocks → Type 0) (old new : StoreMoment (Store B P)) (result : Result ℕ DiskFailed) :
    Type 0 where
  pub outcome : (blocks : Blocks) (rest : List Bool) → Holds blocks →
      FetchLeft (place blocks (new.log ++ rest)) blocks result (cache_of new.store)
      (length new.log)
  pub tells : (blocks : Blocks) (rest : List Bool) → Holds blocks → Knows old.disk.known blocks →
      Knows new.disk.known (blocks_after (place blocks (new.log ++ rest)) blocks)
  pub first : (rest : List Bool) → disk_fails (new.log ++ rest) 0 ≡ false
  pub keeps : FetchKeeps old.store new.store result new.log
  pub calls : CallsExtend old.disk new.disk old.log new.log

-- the definitions' fetch of block b for process p
abbrev pub fetch_of : {B : Type 0} {P : _} → Store B P → (p b : ℕ) → Option (List ℕ) → Blocks →
    List Bool → Fetched
fetch_of s p b answer =
    λ blocks io. fetches.fetch (world_of_store s) (policies_of s 1) p b answer
    (cache_of s) blocks io

-- the same ahead of a read
abbrev pub fetch_ahead_of : {B : Type 0} {P : _} → Store B P → (p b : ℕ)
    → Option (List ℕ) → Blocks → List Bool → Fetched
fetch_ahead_of s p b answer =
    λ blocks io. fetches.fetch_ahead (world_of_store s) (policies_of s 1) p b answer
    (cache_of s) blocks io

-- the same where no frame holds the block
abbrev pub load_of : {B : Type 0} {P : _} → Store B P → (p b : ℕ) → Option (List ℕ) → Blocks →
    List Bool → Fetched
load_of s p b answer =
    λ blocks io. read_block (world_of_store s) (policies_of s 1) p b answer (cache_of s) blocks io

-- the same once the block was read
abbrev pub place_of : {B : Type 0} {P : _} → Store B P → (p b : ℕ) → Option (List ℕ) → Blocks →
    List Bool → Fetched
place_of s p b answer =
    let candidate = or_zero (victim_among (policies_of s 1) (cache_of s) (cache_of s).lru) in
    λ blocks io.
    place_block (free_frame (cache_of s) (world_of_store s).frames 0) p b
    (chosen_by answer candidate) candidate (cache_of s) blocks io

-- the same where it takes the place of what frame f holds
abbrev pub evict_of : {B : Type 0} {P : _} → Store B P → (p b f candidate : ℕ) → (bytes : List ℕ)
    → Blocks → List Bool → Fetched
evict_of s p b f candidate bytes =
    λ blocks io.
    fetches.evict ((cache_of s).frame f) f
    (replaced f candidate (new_frame p b bytes) (cache_of s)) blocks io
