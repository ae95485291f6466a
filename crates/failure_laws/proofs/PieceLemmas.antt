-- Pieces look at which calls of the disk fail, and at nothing else of their list.
use Rattle.std.specs.Prelude.{◌≡◌, ℕ, zero, suc, cond, Bool, true, false, List, length, Option}
use Rattle.std.specs.Prelude.{Some, None, Result, Ok, Err}
use Rattle.std.proofs.Common.{refl, ap, ◌∙◌}
use Rattle.script_model.specs.declared.OpenRow.{OpenRow}
use Rattle.script_model.specs.declared.Refusal.{Refusal}
use Rattle.script_model.specs.declared.SysCall.{SysCall}
use Rattle.script_model.specs.declared.SysCall.TheVariants.{Read, Write, Sync, StreamRead}
use Rattle.script_model.specs.declared.SysCall.TheVariants.{StreamWrite}
use Rattle.script_model.specs.World.{World, Blocks}
use Rattle.script_model.specs.Objects.{Objects, PolValue, CacheValue, FrameValue, at}
use Rattle.script_model.specs.Policies.{or_zero, victim_among}
use Rattle.script_model.specs.Meaning.{Meaning, Stage, Answer, Piece, disk_fails, registers_of}
use Rattle.kernel_model.specs.Needs.{file_block, ahead_block, frame_of_block, free_frame}
use Rattle.script_model.specs.Fetch.{Fetched, Got, Failed, evict, place_block, read_block, fetch_by}
use Rattle.script_model.specs.Fetch.{fetch_ahead_by, chosen_by, replaced, new_frame, cleaned}
use Rattle.script_model.specs.Fetch.{dirty_value}
use Rattle.script_model.specs.FilePieces.{disk_failed, with_cache, read_first, read_third}
use Rattle.script_model.specs.FilePieces.{read_first_at}
use Rattle.script_model.specs.FilePieces.{read_third_at, read_piece, write_fetched, write_piece}
use Rattle.script_model.specs.FilePieces.{sync_from}
use Rattle.script_model.specs.Pieces.{piece_of, plain_calls}
use Rattle.script_model.specs.StreamPoints.{stream_points, stream_piece, stream_read_piece}
use Rattle.script_model.specs.StreamPoints.{stream_write_piece, stream_fetches, stream_taken}
use Rattle.script_model.specs.StreamPoints.{is_stream_call}
use Rattle.script_model.specs.EventPoints.{event_points, is_event_call}
use Rattle.script_model.specs.Beside.{beside}
use Rattle.script_model.specs.AllCalls.{all_calls}
use Rattle.failure_laws.specs.Failures.{FailAlike, SeesFailures}

-- ---- a fetch

-- what is evicted
evict_sees : (old : Option FrameValue) (f : ℕ) (after : CacheValue) (blocks : Blocks)
    (io jo : List Bool) → FailAlike io jo →
    evict old f after blocks io ≡ evict old f after blocks jo
evict_sees None f after blocks io jo h = refl
evict_sees (Some old) f after blocks io jo h =
    ap (λ (x : Bool). elim old.dirty as (λ _. Fetched) [
      | false ↦ Got after blocks f 1
      | true ↦ elim x as (λ _. Fetched) [
        | true ↦ Failed 2
        | false ↦ Got after (at old.block old.bytes blocks) f 2
      ]
    ]) (h 1)

-- where a block that was read is put
place_sees : (free : Option ℕ) (p b chosen candidate : ℕ) (c : CacheValue) (blocks : Blocks)
    (io jo : List Bool) → FailAlike io jo →
    place_block free p b chosen candidate c blocks io
    ≡ place_block free p b chosen candidate c blocks jo
place_sees (Some f) p b chosen candidate c blocks io jo h = refl
place_sees None p b chosen candidate c blocks io jo h =
    evict_sees (c.frame chosen) chosen
    (replaced chosen candidate (new_frame p b (blocks b)) c) blocks io jo h

-- a block that no frame holds
read_block_sees : (v : World) (pol : PolValue) (p b : ℕ) (answer : Option (List ℕ))
    (c : CacheValue) (blocks : Blocks) (io jo : List Bool) → FailAlike io jo →
    read_block v pol p b answer c blocks io ≡ read_block v pol p b answer c blocks jo
read_block_sees v pol p b answer c blocks io jo h =
    let candidate = or_zero (victim_among pol c c.lru) in
    let placed = λ (l : List Bool). place_block (free_frame c v.frames 0) p b
    (chosen_by answer candidate) candidate c blocks l in
    ap (λ (x : Bool). elim x as (λ _. Fetched) [ true ↦ Failed 1 | false ↦ placed io ]) (h 0)
    ∙ ap (λ (y : Fetched). elim (disk_fails jo 0) as (λ _. Fetched)
    [ true ↦ Failed 1 | false ↦ y ])
    (place_sees (free_frame c v.frames 0) p b (chosen_by answer candidate) candidate c blocks
    io jo h)

-- a block for a read or a write
fetch_sees : (held : Option ℕ) (v : World) (pol : PolValue) (p b : ℕ) (answer : Option (List ℕ))
    (c : CacheValue) (blocks : Blocks) (io jo : List Bool) → FailAlike io jo →
    fetch_by held v pol p b answer c blocks io ≡ fetch_by held v pol p b answer c blocks jo
fetch_sees (Some f) v pol p b answer c blocks io jo h = refl
fetch_sees None v pol p b answer c blocks io jo h =
    read_block_sees v pol p b answer c blocks io jo h

-- a block that is read ahead
fetch_ahead_sees : (held : Option ℕ) (v : World) (pol : PolValue) (p b : ℕ)
    (answer : Option (List ℕ)) (c : CacheValue) (blocks : Blocks) (io jo : List Bool) →
    FailAlike io jo →
    fetch_ahead_by held v pol p b answer c blocks io
    ≡ fetch_ahead_by held v pol p b answer c blocks jo
fetch_ahead_sees (Some f) v pol p b answer c blocks io jo h = refl
fetch_ahead_sees None v pol p b answer c blocks io jo h =
    read_block_sees v pol p b answer c blocks io jo h

-- ---- pieces of plain calls

-- the first piece of a read
first_sees : (r : Result ℕ Refusal) (v : World) (s : Objects) (blocks : Blocks)
    (p fd i off len : ℕ) (o : OpenRow) (answer : Option (List ℕ)) (io jo : List Bool) →
    FailAlike io jo →
    read_first_at r v s blocks p fd i off len o answer io
    ≡ read_first_at r v s blocks p fd i off len o answer jo
first_sees (Err why) v s blocks p fd i off len o answer io jo h = refl
first_sees (Ok b) v s blocks p fd i off len o answer io jo h =
    ap (read_first s blocks p fd i off len o)
    (fetch_sees (frame_of_block s.things.cache b) v (s.things.pol 1) p b answer s.things.cache
    blocks io jo h)

-- a later one
third_sees : (r : Result ℕ Refusal) (v : World) (s : Objects) (blocks : Blocks)
    (p fd i off len : ℕ) (o : OpenRow) (answer : Option (List ℕ)) (io jo : List Bool) →
    FailAlike io jo →
    read_third_at r v s blocks p fd i off len o answer io
    ≡ read_third_at r v s blocks p fd i off len o answer jo
third_sees (Err why) v s blocks p fd i off len o answer io jo h = refl
third_sees (Ok b) v s blocks p fd i off len o answer io jo h =
    ap (read_third s blocks p fd i off len o)
    (fetch_ahead_sees (frame_of_block s.things.cache b) v (s.things.pol 1) p b answer
    s.things.cache blocks io jo h)

-- any piece of a read
read_sees : (n : ℕ) (v : World) (s : Objects) (blocks : Blocks) (p fd i off len : ℕ)
    (o : Option OpenRow) (answer : Option (List ℕ)) (io jo : List Bool) → FailAlike io jo →
    read_piece n v s blocks p fd i off len o answer io
    ≡ read_piece n v s blocks p fd i off len o answer jo
read_sees n v s blocks p fd i off len None answer io jo h = refl
read_sees zero v s blocks p fd i off len (Some o) answer io jo h =
    first_sees (file_block v (Some o) i off len) v s blocks p fd i off len o answer io jo h
read_sees (suc zero) v s blocks p fd i off len (Some o) answer io jo h = refl
read_sees (suc (suc n)) v s blocks p fd i off len (Some o) answer io jo h =
    third_sees (ahead_block v (Some o)) v s blocks p fd i off len o answer io jo h

-- a write
write_sees : (r : Result ℕ Refusal) (v : World) (s : Objects) (blocks : Blocks) (p off : ℕ)
    (new : List ℕ) (answer : Option (List ℕ)) (io jo : List Bool) → FailAlike io jo →
    write_piece r v s blocks p off new answer io ≡ write_piece r v s blocks p off new answer jo
write_sees (Err why) v s blocks p off new answer io jo h = refl
write_sees (Ok b) v s blocks p off new answer io jo h =
    ap (write_fetched s blocks off new)
    (fetch_sees (frame_of_block s.things.cache b) v (s.things.pol 1) p b answer s.things.cache
    blocks io jo h)

-- a sync
sync_sees : (n f written : ℕ) (s : Objects) (blocks : Blocks) (io jo : List Bool) →
    FailAlike io jo →
    sync_from n f written s blocks io ≡ sync_from n f written s blocks jo
sync_sees zero f written s blocks io jo h = refl
sync_sees (suc n) f written s blocks io jo h =
    by_frame (dirty_value (s.things.cache.frame f))
    (λ g w u after. sync_sees n g w u after io jo h)
  where
    by_frame : (x : Option FrameValue) →
        ((g w : ℕ) (u : Objects) (after : Blocks) →
        sync_from n g w u after io ≡ sync_from n g w u after jo) →
        elim x as (λ _. Piece) [
          | None ↦ sync_from n (suc f) written s blocks io
          | Some value ↦ elim (disk_fails io written) as (λ _. Piece) [
            | true ↦ disk_failed s blocks (suc written)
            | false ↦ sync_from n (suc f) (suc written)
                (with_cache (cleaned f value s.things.cache) s)
                (at value.block value.bytes blocks) io
          ]
        ]
        ≡ elim x as (λ _. Piece) [
          | None ↦ sync_from n (suc f) written s blocks jo
          | Some value ↦ elim (disk_fails jo written) as (λ _. Piece) [
            | true ↦ disk_failed s blocks (suc written)
            | false ↦ sync_from n (suc f) (suc written)
                (with_cache (cleaned f value s.things.cache) s)
                (at value.block value.bytes blocks) jo
          ]
        ]
    by_frame None rest = rest (suc f) written s blocks
    by_frame (Some value) rest =
        let u = with_cache (cleaned f value s.things.cache) s in
        let after = at value.block value.bytes blocks in
        ap (λ (x : Bool). elim x as (λ _. Piece) [
          | true ↦ disk_failed s blocks (suc written)
          | false ↦ sync_from n (suc f) (suc written) u after io
        ]) (h written)
        ∙ ap (λ (y : Piece). elim (disk_fails jo written) as (λ _. Piece) [
          | true ↦ disk_failed s blocks (suc written)
          | false ↦ y
        ]) (rest (suc f) (suc written) u after)

-- every piece
plain_sees : (c : SysCall) (n : ℕ) (v : World) (s : Objects) (blocks : Blocks) (p : ℕ)
    (answer : Option (List ℕ)) (io jo : List Bool) → FailAlike io jo →
    piece_of c n v s blocks p answer io ≡ piece_of c n v s blocks p answer jo
plain_sees (Read fd i off len) n v s blocks p answer io jo h =
    read_sees n v s blocks p fd i off len (s.things.file p fd) answer io jo h
plain_sees (Write fd i off bytes) n v s blocks p answer io jo h =
    write_sees (file_block v (s.things.file p fd) i off (length bytes)) v s blocks p off bytes
    answer io jo h
plain_sees Sync n v s blocks p answer io jo h = sync_sees v.frames 0 0 s blocks io jo h
plain_sees c n v s blocks p answer io jo h = refl

-- ---- streams

-- the first piece of a stream read
taken_sees : (r : Result ℕ Refusal) (c : SysCall) (v : World) (s : Objects) (blocks : Blocks)
    (p off len : ℕ) (answer : Option Answer) (io jo : List Bool) → FailAlike io jo →
    stream_fetches r c v s blocks p off len answer io
    ≡ stream_fetches r c v s blocks p off len answer jo
taken_sees (Err why) c v s blocks p off len answer io jo h = refl
taken_sees (Ok b) c v s blocks p off len answer io jo h =
    ap (stream_taken c s blocks off len)
    (fetch_sees (frame_of_block s.things.cache b) v (s.things.pol 1) p b (registers_of answer)
    s.things.cache blocks io jo h)

-- either piece of a stream read
stream_read_sees : (n : ℕ) (t : Stage) (v : World) (s : Objects) (blocks : Blocks)
    (p fd i off len : ℕ) (answer : Option Answer) (io jo : List Bool) → FailAlike io jo →
    stream_read_piece n t v s blocks p fd i off len answer io
    ≡ stream_read_piece n t v s blocks p fd i off len answer jo
stream_read_sees zero t v s blocks p fd i off len answer io jo h =
    taken_sees (file_block v (s.things.file p fd) i off len) t.call v s blocks p off len answer
    io jo h
stream_read_sees (suc n) t v s blocks p fd i off len answer io jo h = refl

-- either piece of a stream write
stream_write_sees : (n : ℕ) (t : Stage) (v : World) (s : Objects) (blocks : Blocks)
    (p fd i off : ℕ) (given : List ℕ) (answer : Option Answer) (io jo : List Bool) →
    FailAlike io jo →
    stream_write_piece n t v s blocks p fd i off given answer io
    ≡ stream_write_piece n t v s blocks p fd i off given answer jo
stream_write_sees zero t v s blocks p fd i off given answer io jo h = refl
stream_write_sees (suc n) t v s blocks p fd i off given answer io jo h =
    plain_sees (Write fd i off t.bytes) 0 v s blocks p (registers_of answer) io jo h

-- every piece of the table of streams
stream_sees : (c : SysCall) (t : Stage) (v : World) (s : Objects) (blocks : Blocks) (p : ℕ)
    (answer : Option Answer) (io jo : List Bool) → FailAlike io jo →
    stream_piece c t v s blocks p answer io ≡ stream_piece c t v s blocks p answer jo
stream_sees (StreamRead fd i off len) t v s blocks p answer io jo h =
    stream_read_sees t.piece t v s blocks p fd i off len answer io jo h
stream_sees (StreamWrite fd i off bytes) t v s blocks p answer io jo h =
    stream_write_sees t.piece t v s blocks p fd i off bytes answer io jo h
stream_sees c t v s blocks p answer io jo h =
    plain_sees c t.piece v s blocks p (registers_of answer) io jo h

-- ---- tables

-- of two tables beside each other
beside_sees : (owns : SysCall → Bool) (a b : Meaning) → SeesFailures a → SeesFailures b →
    SeesFailures (beside owns a b)
beside_sees owns a b first second v images s blocks p t answer io jo h =
    ap (λ (x : Piece). cond (owns t.call) x (b.piece v images s blocks p t answer io))
    (first v images s blocks p t answer io jo h)
    ∙ ap (λ (x : Piece). cond (owns t.call) (a.piece v images s blocks p t answer jo) x)
    (second v images s blocks p t answer io jo h)

-- of all calls
pub all_calls_see_failures : SeesFailures all_calls
all_calls_see_failures =
    beside_sees is_stream_call stream_points (beside is_event_call event_points plain_calls)
    (λ v images s blocks p t answer io jo h. stream_sees t.call t v s blocks p answer io jo h)
    (beside_sees is_event_call event_points plain_calls
    (λ v images s blocks p t answer io jo h. refl)
    (λ v images s blocks p t answer io jo h.
    plain_sees t.call t.piece v s blocks p (registers_of answer) io jo h))
