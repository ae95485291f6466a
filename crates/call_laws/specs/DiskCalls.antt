-- The system calls meet the laws of disk calls: which ones a piece makes, and when it answers a
-- disk fault.
use Rattle.std.specs.Prelude.{◌≡◌, ℕ, zero, suc, ◌+◌, ◌-◌, ◌≤◌, Bool, true, false, cond, not, List}
use Rattle.std.specs.Prelude.{[], ◌∷◌, ◌++◌, length, take, Option, Some, None, Result, Ok, Err}
use Rattle.std.specs.List.{list_any}
use Rattle.std.proofs.Common.{arith, refl, ap, ◌∙◌}
use Rattle.std.proofs.Math.ListN.{get_or-append}
use Rattle.std.proofs.lemmas.Bool.{not-true}
use Rattle.kernel_model.specs.declared.SysCall.{SysCall}
use Rattle.kernel_model.specs.declared.SysCall.TheVariants.{Yield, Read, Write, Sync}
use Rattle.kernel_model.specs.declared.Refusal.{Refusal}
use Rattle.kernel_model.specs.declared.Refusal.TheVariants.{BadIndex}
use Rattle.kernel_model.specs.declared.OpenRow.{OpenRow}
use Rattle.kernel_model.specs.declared.FileRow.{FileRow}
use Rattle.kernel_model.specs.World.{World, Blocks, file_row}
use Rattle.kernel_model.specs.Objects.{Objects, PolValue, CacheValue, FrameValue, at}
use Rattle.kernel_model.specs.Policies.{or_zero, victim_among, ahead_default}
use Rattle.kernel_model.specs.Meaning.{Stage, stage, registers_of, Piece, disk_fails}
use Rattle.kernel_model.specs.Needs.{file_block, file_block_in, ahead_block, is_within, frame_of_block, free_frame}
use Rattle.kernel_model.specs.Fetch.{cleaned, Fetched, Got, Failed, fetch, fetch_by, fetch_ahead}
use Rattle.kernel_model.specs.Fetch.{fetch_ahead_by, read_block, place_block, evict, chosen_by}
use Rattle.kernel_model.specs.Fetch.{replaced, new_frame, dirty_value}
use Rattle.kernel_model.specs.FilePieces.{disk_failed, with_cache, unless_zero, read_first}
use Rattle.kernel_model.specs.FilePieces.{read_third, ahead_by, read_first_at, read_third_at}
use Rattle.kernel_model.specs.FilePieces.{read_piece, write_fetched, write_piece, sync_from}
use Rattle.kernel_model.specs.Pieces.{plain_upto, piece_of, yield_piece}
use Rattle.kernel_model.specs.Laws.{DiskLaws}
use Rattle.call_laws.specs.QuickPieces.{is_disk_fault, is_faulty, quick_piece}
use Rattle.call_laws.specs.SyncSteps.{sync_steps}

-- ---- lists of outcomes

-- whether one of the first calls fails doesn't look at later ones
fails_append : (io rest : List Bool) (n : ℕ) → suc n ≤ length io →
    disk_fails (io ++ rest) n ≡ disk_fails io n
fails_append io rest n l = get_or-append io rest false n l

-- a call that fails is among the first of them, itself the last
fails_within : (io : List Bool) (n : ℕ) → disk_fails io n ≡ true →
    list_any (λ failed. failed) (take (suc n) io) ≡ true
fails_within [] n h = cc
fails_within (true ∷ io) n h = refl
fails_within (false ∷ io) zero h = h
fails_within (false ∷ io) (suc n) h = fails_within io n h

-- ---- a fetch

-- how many calls of the disk a fetch made
abbrev calls_of : Fetched → ℕ
calls_of (Got cache blocks frame calls) = calls
calls_of (Failed calls) = calls

-- a fetch failed
abbrev has_failed : Fetched → Bool
has_failed (Failed calls) = true
has_failed (Got cache blocks frame calls) = false

-- what is known of a fetch: with other outcomes of later calls it is the same, it makes at most
-- two, and where it failed, so did one of these
record IsFetch (x : List Bool → Fetched) : Type 0 where
  pub own : (io rest : List Bool) → calls_of (x io) ≤ length io → x (io ++ rest) ≡ x io
  pub few : (io : List Bool) → calls_of (x io) ≤ 2
  pub fault : (io : List Bool) → has_failed (x io) ≡ true →
      list_any (λ failed. failed) (take (calls_of (x io)) io) ≡ true

-- a fetch that looks at no call, and makes at most two
fetch_still : (cache : CacheValue) (blocks : Blocks) (frame calls : ℕ) → calls ≤ 2 →
    IsFetch (λ io. Got cache blocks frame calls)
fetch_still cache blocks frame calls l =
    record { own = λ io rest h. refl; few = λ io. l; fault = λ io h. cc }

-- the call of number n fails, or this is what comes of it
abbrev unless_failed : (n : ℕ) → (List Bool → Fetched) → List Bool → Fetched
unless_failed n x io = elim (disk_fails io n) [ true ↦ Failed (suc n) | false ↦ x io ]

-- by the two cases of the call of number n
unless_calls : (n : ℕ) (b : Bool) (y : Fetched) → suc n ≤ calls_of y →
    suc n ≤ calls_of (elim b [ true ↦ Failed (suc n) | false ↦ y ])
unless_calls n true y l = omega arith
unless_calls n false y l = l

-- it is the same with other outcomes of later calls, if what comes of it is
unless_own : (n : ℕ) (b : Bool) (y z : Fetched) (m : ℕ) → (calls_of y ≤ m → z ≡ y) →
    calls_of (elim b [ true ↦ Failed (suc n) | false ↦ y ]) ≤ m →
    elim b as (λ _. Fetched) [ true ↦ Failed (suc n) | false ↦ z ]
    ≡ elim b as (λ _. Fetched) [ true ↦ Failed (suc n) | false ↦ y ]
unless_own n true y z m k l = refl
unless_own n false y z m k l = k l

-- it makes at most two calls, if what comes of it does
unless_few : (n : ℕ) (b : Bool) (y : Fetched) → suc n ≤ 2 → calls_of y ≤ 2 →
    calls_of (elim b [ true ↦ Failed (suc n) | false ↦ y ]) ≤ 2
unless_few n true y l m = l
unless_few n false y l m = m

-- where it failed, so did a call of the disk, if that holds of what comes of it
unless_fault : (n : ℕ) (b : Bool) (y : Fetched) (io : List Bool) → disk_fails io n ≡ b →
    (has_failed y ≡ true → list_any (λ failed. failed) (take (calls_of y) io) ≡ true) →
    has_failed (elim b [ true ↦ Failed (suc n) | false ↦ y ]) ≡ true →
    list_any (λ failed. failed) (take (calls_of (elim b [ true ↦ Failed (suc n) | false ↦ y ])) io)
    ≡ true
unless_fault n true y io e k h = fails_within io n e
unless_fault n false y io e k h = k h

-- where what comes of a call is a fetch that makes this call too, the whole is one
fetch_unless_failed : (n : ℕ) (x : List Bool → Fetched) → suc n ≤ 2 →
    ((io : List Bool) → suc n ≤ calls_of (x io)) → IsFetch x → IsFetch (unless_failed n x)
fetch_unless_failed n x l more f =
    record {
      own = λ io rest h.
          let at_least : suc n ≤ calls_of (unless_failed n x io) =
          unless_calls n (disk_fails io n) (x io) (more io) in
          let same : disk_fails (io ++ rest) n ≡ disk_fails io n =
          fails_append io rest n (omega (arith, at_least, h)) in
          ap (λ b. elim b as (λ _. Fetched) [ true ↦ Failed (suc n) | false ↦ x (io ++ rest) ]) same
          ∙ unless_own n (disk_fails io n) (x io) (x (io ++ rest)) (length io) (f.own io rest) h;
      few = λ io. unless_few n (disk_fails io n) (x io) l (f.few io);
      fault = λ io h. unless_fault n (disk_fails io n) (x io) io refl (f.fault io) h;
    }

-- what is evicted
evict_fetches : (old : Option FrameValue) (f : ℕ) (after : CacheValue) (blocks : Blocks) →
    IsFetch (λ io. evict old f after blocks io)
evict_fetches None f after blocks = fetch_still after blocks f 1 (omega arith)
evict_fetches (Some old) f after blocks =
    elim old.dirty as (λ dirty. IsFetch (λ io. elim dirty [
      | false ↦ Got after blocks f 1
      | true ↦ elim (disk_fails io 1) [
        | true ↦ Failed 2
        | false ↦ Got after (at old.block old.bytes blocks) f 2
      ]
    ])) [
      | false ↦ fetch_still after blocks f 1 (omega arith)
      | true ↦ fetch_unless_failed 1 (λ io. Got after (at old.block old.bytes blocks) f 2)
          (omega arith) (λ io. omega arith)
          (fetch_still after (at old.block old.bytes blocks) f 2 (omega arith))
    ]

-- the call that read the block is among those that are counted
evict_calls : (old : Option FrameValue) (f : ℕ) (after : CacheValue) (blocks : Blocks)
    (io : List Bool) → 1 ≤ calls_of (evict old f after blocks io)
evict_calls None f after blocks io = omega arith
evict_calls (Some old) f after blocks io =
    elim old.dirty as (λ dirty. 1 ≤ calls_of (elim dirty [
      | false ↦ Got after blocks f 1
      | true ↦ elim (disk_fails io 1) [
        | true ↦ Failed 2
        | false ↦ Got after (at old.block old.bytes blocks) f 2
      ]
    ])) [
      | false ↦ omega arith
      | true ↦ let l : 2 ≤ calls_of (elim (disk_fails io 1) [
        | true ↦ Failed 2
        | false ↦ Got after (at old.block old.bytes blocks) f 2
      ]) =
          unless_calls 1 (disk_fails io 1) (Got after (at old.block old.bytes blocks) f 2)
          (omega arith) in omega (arith, l)
    ]

-- where a block that was read is put
place_fetches : (free : Option ℕ) (p b chosen candidate : ℕ) (c : CacheValue) (blocks : Blocks) →
    IsFetch (λ io. place_block free p b chosen candidate c blocks io)
place_fetches (Some f) p b chosen candidate c blocks = fetch_still _ blocks f 1 (omega arith)
place_fetches None p b chosen candidate c blocks =
    evict_fetches (c.frame chosen) chosen
    (replaced chosen candidate (new_frame p b (blocks b)) c) blocks

-- wherever the block is put
place_calls : (free : Option ℕ) (p b chosen candidate : ℕ) (c : CacheValue) (blocks : Blocks)
    (io : List Bool) →
    1 ≤ calls_of (place_block free p b chosen candidate c blocks io)
place_calls (Some f) p b chosen candidate c blocks io = omega arith
place_calls None p b chosen candidate c blocks io =
    evict_calls (c.frame chosen) chosen
    (replaced chosen candidate (new_frame p b (blocks b)) c) blocks io

-- a block that no frame holds
read_block_fetches : (v : World) (pol : PolValue) (p b : ℕ) (answer : Option (List ℕ))
    (c : CacheValue) (blocks : Blocks) →
    IsFetch (λ io. read_block v pol p b answer c blocks io)
read_block_fetches v pol p b answer c blocks =
    let candidate = or_zero (victim_among pol c c.lru) in
    fetch_unless_failed 0 (λ io. place_block (free_frame c v.frames 0) p b
    (chosen_by answer candidate) candidate c blocks io) (omega arith)
    (λ io. place_calls (free_frame c v.frames 0) p b
    (chosen_by answer candidate) candidate c blocks io)
    (place_fetches (free_frame c v.frames 0) p b (chosen_by answer candidate) candidate c blocks)

-- a block for a read or a write
fetch_by_fetches : (held : Option ℕ) (v : World) (pol : PolValue) (p b : ℕ)
    (answer : Option (List ℕ)) (c : CacheValue) (blocks : Blocks) →
    IsFetch (λ io. fetch_by held v pol p b answer c blocks io)
fetch_by_fetches (Some f) v pol p b answer c blocks = fetch_still _ blocks f 0 (omega arith)
fetch_by_fetches None v pol p b answer c blocks = read_block_fetches v pol p b answer c blocks

-- a block that is read ahead
fetch_ahead_by_fetches : (held : Option ℕ) (v : World) (pol : PolValue) (p b : ℕ)
    (answer : Option (List ℕ)) (c : CacheValue) (blocks : Blocks) →
    IsFetch (λ io. fetch_ahead_by held v pol p b answer c blocks io)
fetch_ahead_by_fetches (Some f) v pol p b answer c blocks = fetch_still c blocks f 0 (omega arith)
fetch_ahead_by_fetches None v pol p b answer c blocks = read_block_fetches v pol p b answer c blocks

-- ---- pieces

-- what is known of a piece: with other outcomes of later calls it is the same, it makes at most so
-- many, and where it answers a disk fault, one of these failed
record IsDiskPiece (most : ℕ) (x : List Bool → Piece) : Type 0 where
  pub own : (io rest : List Bool) → (x io).calls ≤ length io → x (io ++ rest) ≡ x io
  pub few : (io : List Bool) → (x io).calls ≤ most
  pub fault : (io : List Bool) → is_faulty (x io).after ≡ true →
      list_any (λ failed. failed) (take (x io).calls io) ≡ true

-- a piece that looks at no call
still : (most : ℕ) (y : Piece) → y.calls ≡ 0 → is_faulty y.after ≡ false →
    IsDiskPiece most (λ io. y)
still most y h k = record { own = λ io rest l. refl; few = λ io. omega arith; fault = λ io l. cc }

-- a piece that does something with what it fetched
by_fetch : (x : List Bool → Fetched) (g : Fetched → Piece) → IsFetch x →
    ((y : Fetched) → (g y).calls ≡ calls_of y) →
    ((y : Fetched) → is_faulty (g y).after ≡ true → has_failed y ≡ true) →
    IsDiskPiece 2 (λ io. g (x io))
by_fetch x g f calls faults =
    record {
      own = λ io rest l. ap g (f.own io rest (rw (calls (x io)) at l));
      few = λ io. rw (calls (x io)) (f.few io);
      fault = λ io h. rw (calls (x io)) (f.fault io (faults (x io) h));
    }

-- a refusal to name a block is no disk fault
abbrev faultless : Result ℕ Refusal → Bool
faultless (Ok b) = true
faultless (Err why) = not (is_disk_fault why)

-- nor is the refusal of a block that isn't in the file
file_block_in_faultless : (r : Option FileRow) (i off len : ℕ) →
    faultless (file_block_in r i off len) ≡ true
file_block_in_faultless None i off len = refl
file_block_in_faultless (Some r) i off len =
    elim (is_within r i off len) as (λ b. faultless (cond b (Ok (r.start + i)) (Err BadIndex))
    ≡ true) [ true ↦ refl | false ↦ refl ]

-- nor that of a file that isn't open
file_block_faultless : (v : World) (o : Option OpenRow) (i off len : ℕ) →
    faultless (file_block v o i off len) ≡ true
file_block_faultless v None i off len = refl
file_block_faultless v (Some o) i off len = file_block_in_faultless (file_row v o.file) i off len

-- ---- read and write

-- the end of a read is no disk fault
unless_zero_faultless : (t : Stage) (n : ℕ) → is_faulty (unless_zero t n) ≡ false
unless_zero_faultless t zero = refl
unless_zero_faultless t (suc n) = refl

-- the first piece of a read makes the calls of its fetch
first_calls : (s : Objects) (blocks : Blocks) (p fd i off len : ℕ) (o : OpenRow) (y : Fetched) →
    (read_first s blocks p fd i off len o y).calls ≡ calls_of y
first_calls s blocks p fd i off len o (Failed calls) = refl
first_calls s blocks p fd i off len o (Got cache after frame calls) = refl

-- and answers a disk fault where that failed
first_faults : (s : Objects) (blocks : Blocks) (p fd i off len : ℕ) (o : OpenRow) (y : Fetched) →
    is_faulty (read_first s blocks p fd i off len o y).after ≡ true → has_failed y ≡ true
first_faults s blocks p fd i off len o (Failed calls) h = refl
first_faults s blocks p fd i off len o (Got cache after frame calls) h = cc

-- a later piece of a read makes the calls of its fetch
third_calls : (s : Objects) (blocks : Blocks) (p fd i off len : ℕ) (o : OpenRow) (y : Fetched) →
    (read_third s blocks p fd i off len o y).calls ≡ calls_of y
third_calls s blocks p fd i off len o (Failed calls) = refl
third_calls s blocks p fd i off len o (Got cache after frame calls) = refl

-- and answers a disk fault where that failed
third_faults : (s : Objects) (blocks : Blocks) (p fd i off len : ℕ) (o : OpenRow) (y : Fetched) →
    is_faulty (read_third s blocks p fd i off len o y).after ≡ true → has_failed y ≡ true
third_faults s blocks p fd i off len o (Failed calls) h = refl
third_faults s blocks p fd i off len o (Got cache after frame calls) h =
    let no = unless_zero_faultless (stage (Read fd i off len) 2) (o.count - 1) in cc

-- a write makes the calls of its fetch
write_calls : (s : Objects) (blocks : Blocks) (off : ℕ) (new : List ℕ) (y : Fetched) →
    (write_fetched s blocks off new y).calls ≡ calls_of y
write_calls s blocks off new (Failed calls) = refl
write_calls s blocks off new (Got cache after frame calls) = refl

-- and answers a disk fault where that failed
write_faults : (s : Objects) (blocks : Blocks) (off : ℕ) (new : List ℕ) (y : Fetched) →
    is_faulty (write_fetched s blocks off new y).after ≡ true → has_failed y ≡ true
write_faults s blocks off new (Failed calls) h = refl
write_faults s blocks off new (Got cache after frame calls) h = cc

-- the first piece of a read
first_calls_disk : (r : Result ℕ Refusal) (v : World) (s : Objects) (blocks : Blocks)
    (p fd i off len : ℕ) (o : OpenRow) (answer : Option (List ℕ)) →
    faultless r ≡ true → IsDiskPiece 2 (λ io. read_first_at r v s blocks p fd i off len o answer io)
first_calls_disk (Err why) v s blocks p fd i off len o answer h =
    still 2 _ refl (not-true (is_disk_fault why) h)
first_calls_disk (Ok b) v s blocks p fd i off len o answer h =
    by_fetch (λ io. fetch v (s.things.pol 1) p b answer s.things.cache blocks io)
    (read_first s blocks p fd i off len o)
    (fetch_by_fetches (frame_of_block s.things.cache b) v
    (s.things.pol 1) p b answer s.things.cache blocks)
    (first_calls s blocks p fd i off len o) (first_faults s blocks p fd i off len o)

-- a later piece of a read
third_calls_disk : (r : Result ℕ Refusal) (v : World) (s : Objects) (blocks : Blocks)
    (p fd i off len : ℕ) (o : OpenRow) (answer : Option (List ℕ)) →
    faultless r ≡ true → IsDiskPiece 2 (λ io. read_third_at r v s blocks p fd i off len o answer io)
third_calls_disk (Err why) v s blocks p fd i off len o answer h =
    still 2 _ refl (not-true (is_disk_fault why) h)
third_calls_disk (Ok b) v s blocks p fd i off len o answer h =
    by_fetch (λ io. fetch_ahead v (s.things.pol 1) p b answer s.things.cache blocks io)
    (read_third s blocks p fd i off len o)
    (fetch_ahead_by_fetches (frame_of_block s.things.cache b) v
    (s.things.pol 1) p b answer s.things.cache blocks)
    (third_calls s blocks p fd i off len o) (third_faults s blocks p fd i off len o)

-- any piece of a read
read_calls_disk : (n : ℕ) (v : World) (s : Objects) (blocks : Blocks) (p fd i off len : ℕ)
    (o : Option OpenRow) (answer : Option (List ℕ)) →
    IsDiskPiece 2 (λ io. read_piece n v s blocks p fd i off len o answer io)
read_calls_disk n v s blocks p fd i off len None answer = still 2 _ refl refl
read_calls_disk zero v s blocks p fd i off len (Some o) answer =
    first_calls_disk (file_block v (Some o) i off len) v s blocks p fd i off len o answer
    (file_block_faultless v (Some o) i off len)
read_calls_disk (suc zero) v s blocks p fd i off len (Some o) answer =
    still 2 _ refl (unless_zero_faultless (stage (Read fd i off len) 2)
    (ahead_by answer (ahead_default v (s.things.pol 0) (Some o))).1)
read_calls_disk (suc (suc n)) v s blocks p fd i off len (Some o) answer =
    third_calls_disk (ahead_block v (Some o)) v s blocks p fd i off len o answer refl

-- a write
write_calls_disk : (r : Result ℕ Refusal) (v : World) (s : Objects) (blocks : Blocks) (p off : ℕ)
    (new : List ℕ) (answer : Option (List ℕ)) →
    faultless r ≡ true → IsDiskPiece 2 (λ io. write_piece r v s blocks p off new answer io)
write_calls_disk (Err why) v s blocks p off new answer h =
    still 2 _ refl (not-true (is_disk_fault why) h)
write_calls_disk (Ok b) v s blocks p off new answer h =
    by_fetch (λ io. fetch v (s.things.pol 1) p b answer s.things.cache blocks io)
    (write_fetched s blocks off new)
    (fetch_by_fetches (frame_of_block s.things.cache b) v
    (s.things.pol 1) p b answer s.things.cache blocks)
    (write_calls s blocks off new) (write_faults s blocks off new)

-- ---- sync

-- and at most one more for each frame
sync_calls_few : (io : List Bool) (n f written : ℕ) (s : Objects) (blocks : Blocks) →
    (sync_from n f written s blocks io).calls ≤ written + n
sync_calls_few io =
    sync_steps io (λ n f written s blocks x. x.calls ≤ written + n)
    (λ f written s blocks. omega arith) (λ n f written s blocks x e h. omega arith)
    (λ n f written s blocks value e b. omega arith)
    (λ n f written s blocks value x e b h. omega arith)

-- it answers a disk fault where the last one failed
sync_faults : (io : List Bool) (n f written : ℕ) (s : Objects) (blocks : Blocks) →
    is_faulty (sync_from n f written s blocks io).after ≡ true →
    list_any (λ failed. failed) (take (sync_from n f written s blocks io).calls io) ≡ true
sync_faults io =
    sync_steps io (λ n f written s blocks x. is_faulty x.after ≡ true →
    list_any (λ failed. failed) (take x.calls io) ≡ true)
    (λ f written s blocks h. cc) (λ n f written s blocks x e h. h)
    (λ n f written s blocks value e b h. fails_within io written b)
    (λ n f written s blocks value x e b h. h)

-- the step over a frame that is clean, whose writing fails, or that is written
step_clean : (x : Option FrameValue) (b : Bool) (clean failed : Piece) (written : FrameValue →
    Piece) → x ≡ None →
    elim x as (λ _. Piece) [
      | None ↦ clean
      | Some value ↦ elim b [ true ↦ failed | false ↦ written value ]
    ] ≡ clean
step_clean None b clean failed written e = refl
step_clean (Some value) b clean failed written e = cc

-- over one whose writing fails
step_failed : (x : Option FrameValue) (b : Bool) (clean failed : Piece) (written : FrameValue →
    Piece) (value : FrameValue) → x ≡ Some value → b ≡ true →
    elim x as (λ _. Piece) [
      | None ↦ clean
      | Some value ↦ elim b [ true ↦ failed | false ↦ written value ]
    ] ≡ failed
step_failed None b clean failed written value e h = cc
step_failed (Some old) true clean failed written value e h = refl
step_failed (Some old) false clean failed written value e h = cc

-- over one that is written
step_written : (x : Option FrameValue) (b : Bool) (clean failed : Piece) (written : FrameValue →
    Piece) (value : FrameValue) → x ≡ Some value → b ≡ false →
    elim x as (λ _. Piece) [
      | None ↦ clean
      | Some value ↦ elim b [ true ↦ failed | false ↦ written value ]
    ] ≡ written value
step_written None b clean failed written value e h = cc
step_written (Some old) true clean failed written value e h = cc
step_written (Some old) false clean failed written value e h = let same : old ≡ value = cc in
    ap written same

-- a sync makes at least the calls that were made before, and is the same with other outcomes of
-- calls that it doesn't make
sync_own : (io rest : List Bool) (n f written : ℕ) (s : Objects) (blocks : Blocks) →
    (written ≤ (sync_from n f written s blocks io).calls)
    × ((sync_from n f written s blocks io).calls ≤ length io →
    sync_from n f written s blocks (io ++ rest) ≡ sync_from n f written s blocks io)
sync_own io rest =
    sync_steps io (λ n f written s blocks x. (written ≤ x.calls)
    × (x.calls ≤ length io → sync_from n f written s blocks (io ++ rest) ≡ x))
    (λ f written s blocks. (omega arith, λ l. refl))
    (λ n f written s blocks x e h. (
      h.0,
      λ l.
          step_clean (dirty_value (s.things.cache.frame f)) (disk_fails (io ++ rest) written)
          (sync_from n (suc f) written s blocks (io ++ rest))
          (disk_failed s blocks (suc written))
          (λ value. sync_from n (suc f) (suc written)
          (with_cache (cleaned f value s.things.cache) s) (at value.block value.bytes blocks)
          (io ++ rest)) e
          ∙ h.1 l,
    ))
    (λ n f written s blocks value e b. (
      omega arith,
      λ l.
          step_failed (dirty_value (s.things.cache.frame f)) (disk_fails (io ++ rest) written)
          (sync_from n (suc f) written s blocks (io ++ rest))
          (disk_failed s blocks (suc written))
          (λ value. sync_from n (suc f) (suc written)
          (with_cache (cleaned f value s.things.cache) s) (at value.block value.bytes blocks)
          (io ++ rest))
          value e (fails_append io rest written l ∙ b),
    ))
    (λ n f written s blocks value x e b h. (
      let more = h.0 in omega (arith, more),
      λ l. let more = h.0 in
          step_written (dirty_value (s.things.cache.frame f)) (disk_fails (io ++ rest) written)
          (sync_from n (suc f) written s blocks (io ++ rest))
          (disk_failed s blocks (suc written))
          (λ value. sync_from n (suc f) (suc written)
          (with_cache (cleaned f value s.things.cache) s) (at value.block value.bytes blocks)
          (io ++ rest))
          value e (fails_append io rest written (omega (arith, more, l)) ∙ b)
          ∙ h.1 l,
    ))

-- a sync
sync_calls_disk : (n f : ℕ) (s : Objects) (blocks : Blocks) →
    IsDiskPiece n (λ io. sync_from n f 0 s blocks io)
sync_calls_disk n f s blocks =
    record {
      own = λ io rest l. (sync_own io rest n f 0 s blocks).1 l;
      few = λ io. let l = sync_calls_few io n f 0 s blocks in omega (arith, l);
      fault = λ io h. sync_faults io n f 0 s blocks h;
    }

-- ---- all calls

-- a piece that makes at most so many makes at most more
fewer : (l m : ℕ) (x : List Bool → Piece) → l ≤ m → IsDiskPiece l x → IsDiskPiece m x
fewer l m x h c = record {
  own = c.own;
  few = λ io. let k = c.few io in omega (arith, k);
  fault = c.fault;
}

-- the most calls of the disk of a piece
abbrev most_calls : SysCall → ℕ → ℕ
most_calls Sync frames = frames
most_calls c frames = 2

-- a yield
yield_calls_disk : (n : ℕ) (s : Objects) (blocks : Blocks) (p : ℕ) (answer : Option (List ℕ)) →
    IsDiskPiece 2 (λ io. yield_piece n s p answer blocks)
yield_calls_disk zero s blocks p answer = still 2 _ refl refl
yield_calls_disk (suc n) s blocks p answer = still 2 _ refl refl

-- every piece
piece_calls_disk : (c : SysCall) (n : ℕ) (v : World) (s : Objects) (blocks : Blocks) (p : ℕ)
    (answer : Option (List ℕ)) →
    IsDiskPiece (most_calls c v.frames) (λ io. piece_of c n v s blocks p answer io)
piece_calls_disk Yield n v s blocks p answer = yield_calls_disk n s blocks p answer
piece_calls_disk (Read fd i off len) n v s blocks p answer =
    read_calls_disk n v s blocks p fd i off len (s.things.file p fd) answer
piece_calls_disk (Write fd i off bytes) n v s blocks p answer =
    write_calls_disk (file_block v (s.things.file p fd) i off (length bytes)) v s blocks p off bytes
    answer
    (file_block_faultless v (s.things.file p fd) i off (length bytes))
piece_calls_disk Sync n v s blocks p answer = sync_calls_disk v.frames 0 s blocks
piece_calls_disk c n v s blocks p answer =
    let quick = quick_piece c n v s blocks p answer [] refl in
    still 2 (piece_of c n v s blocks p answer []) quick.calls quick.faultless

-- that is at most one for each frame, of which there are two at least
most_calls_frames : (c : SysCall) (frames : ℕ) → 2 ≤ frames → most_calls c frames ≤ frames
most_calls_frames Sync frames l = omega arith
most_calls_frames c frames l = l

-- The laws of disk calls hold of the system calls.
pub disk_calls_of_plain : (top : ℕ) → DiskLaws (plain_upto top)
disk_calls_of_plain top =
    record {
      own_calls = λ v images s blocks p t answer io rest l.
          (piece_calls_disk t.call t.piece v s blocks p (registers_of answer)).own io rest l;
      few_calls = λ v images s blocks p t answer io c.
          (fewer (most_calls t.call v.frames) v.frames
          (λ others. piece_of t.call t.piece v s blocks p (registers_of answer) others)
          (most_calls_frames t.call v.frames c.standing.store.world.frames_some)
          (piece_calls_disk t.call t.piece v s blocks p (registers_of answer))).few io;
      fault = λ v images s blocks p t answer io h.
          (piece_calls_disk t.call t.piece v s blocks p (registers_of answer)).fault io
          (ap is_faulty h);
    }
