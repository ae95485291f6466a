-- The pieces of a stream read and a stream write, by which of the two they are.
use Rattle.std.proofs.Common.{◌≡◌, ℕ, ◌+◌, zero, suc, Bool, List, [], Option, Some, None, Ok}
use Rattle.std.proofs.Common.{length, slice_range, refl, sym, ap, subst, ◌∙◌}
use Rattle.kernel_model.specs.declared.SysCall.{SysCall}
use Rattle.kernel_model.specs.declared.BareCall.{BareCall}
use Rattle.kernel_model.specs.declared.BareCall.TheVariants as bare
use Rattle.kernel_model.specs.Bare.{call_with}
use Rattle.kernel_model.specs.World.{World, Blocks}
use Rattle.kernel_model.specs.Objects.{Objects, CacheValue}
use Rattle.kernel_model.specs.Meaning.{Stage, Answer, Piece, After, Continues, registers_of}
use Rattle.kernel_model.specs.Needs.{file_block}
use Rattle.kernel_model.specs.Fetch.{Fetched, Got, bytes_of}
use Rattle.kernel_model.specs.FilePieces.{leaves, well, with_cache, write_piece}
use Rattle.kernel_model.specs.StreamPoints.{through, stream_taken, stream_read_piece}
use Rattle.kernel_model.specs.StreamPoints.{stream_write_piece, stream_piece, stream_changed}
use Rattle.call_pieces.specs.declared.Work.{Work}
use Rattle.call_pieces.specs.Works.{call_of, stage_of, answer_seen, registers_seen}
use Rattle.call_pieces.specs.Fetching.{FetchLeft, FetchMatches, blocks_after}
use Rattle.call_pieces.specs.Matching.{PieceLeaves, PieceMatches}

-- ---- stream reads

-- a call after its first piece, which took these bytes into it
abbrev pub taken_stage : SysCall → List ℕ → Stage
taken_stage c bytes =
    record { call = c; piece = 1; handlers = []; answers = 0; bytes = bytes }

-- the first piece of a read, whose block was fetched, left this
pub take_left : (c : SysCall) (s new : Objects) (blocks : Blocks) (off len f n : ℕ) (t : Stage)
    (q : Fetched) (cache : CacheValue) → FetchLeft q blocks (Ok f) cache n →
    new ≡ with_cache cache s →
    t ≡ taken_stage c (slice_range (bytes_of cache f) off (off + len)) →
    PieceLeaves (stream_taken c s blocks off len q) new None (Continues t) n
take_left c s new blocks off len f n t q cache left cached taken =
    let there : PieceLeaves (stream_taken c s blocks off len (Got cache (blocks_after q blocks) f n))
    new None (Continues t) n =
    record { objects = cached; bytes = refl; next = ap Continues taken; calls_made = refl } in
    subst (λ (x : Fetched). PieceLeaves (stream_taken c s blocks off len x) new None (Continues t) n)
    left there

-- and so it came out, where the disk told its blocks
pub take_came : (c : SysCall) (s new : Objects) (blocks : Blocks) (off len f n : ℕ) (t : Stage)
    (q : Fetched) (cache : CacheValue) (known : Option (List (List ℕ))) →
    FetchMatches q blocks (Ok f) cache known n → new ≡ with_cache cache s →
    t ≡ taken_stage c (slice_range (bytes_of cache f) off (off + len)) →
    PieceMatches (stream_taken c s blocks off len q) new known None (Continues t) n
take_came c s new blocks off len f n t q cache known came cached taken =
    let there : PieceMatches (stream_taken c s blocks off len (Got cache (blocks_after q blocks) f n))
    new known None (Continues t) n =
    record {
      objects = cached;
      blocks = came.tells;
      bytes = refl;
      next = ap Continues taken;
      calls_made = refl;
    } in
    subst (λ (x : Fetched). PieceMatches (stream_taken c s blocks off len x) new known None
    (Continues t) n) came.outcome there

-- a later piece of a read gives what came out
read_later : (n : ℕ) (t : Stage) (v : World) (s : Objects) (blocks : Blocks) (p fd i off len : ℕ)
    (answer : Option Answer) (io : List Bool) → (n ≡ 0 → ⊥) →
    stream_read_piece n t v s blocks p fd i off len answer io
    ≡ record (leaves s blocks well) { gave = Some (through answer t.bytes) }
read_later zero t v s blocks p fd i off len answer io later = absurd (later refl)
read_later (suc n) t v s blocks p fd i off len answer io later = refl

-- so does that of a call in flight
pub second_read : (w : Work) (fd i off len : ℕ) (v : World) (s : Objects) (blocks : Blocks)
    (answer : Option Answer) (io : List Bool) → w.call ≡ bare.StreamRead fd i off len →
    (w.piece ≡ 0 → ⊥) →
    stream_piece (call_of w) (stage_of w) v s blocks w.caller answer io
    ≡ record (leaves s blocks well) { gave = Some (through answer w.carried.items) }
second_read w fd i off len v s blocks answer io is later =
    ap (λ (x : BareCall).
    stream_piece (call_with x w.bytes.items) (stage_of w) v s blocks w.caller answer io) is
    ∙ read_later w.piece (stage_of w) v s blocks w.caller fd i off len answer io later

-- ---- stream writes

-- the first piece of a write takes what came out, unless the file refuses
write_first : (n : ℕ) (t : Stage) (v : World) (s : Objects) (blocks : Blocks) (p fd i off : ℕ)
    (given : List ℕ) (answer : Option Answer) (io : List Bool) → n ≡ 0 →
    stream_write_piece n t v s blocks p fd i off given answer io
    ≡ stream_changed (file_block v (s.things.file p fd) i off (length given)) t.call s blocks
    (through answer given)
write_first zero t v s blocks p fd i off given answer io first = refl
write_first (suc n) t v s blocks p fd i off given answer io first = cc

-- so does that of a call in flight
pub first_write : (w : Work) (fd i off : ℕ) (v : World) (s : Objects) (blocks : Blocks)
    (answer : Option Answer) (io : List Bool) → w.call ≡ bare.StreamWrite fd i off →
    w.piece ≡ 0 →
    stream_piece (call_of w) (stage_of w) v s blocks w.caller answer io
    ≡ stream_changed (file_block v (s.things.file w.caller fd) i off (length w.bytes.items))
    (call_of w) s blocks (through answer w.bytes.items)
first_write w fd i off v s blocks answer io is first =
    ap (λ (x : BareCall).
    stream_piece (call_with x w.bytes.items) (stage_of w) v s blocks w.caller answer io) is
    ∙ write_first w.piece (stage_of w) v s blocks w.caller fd i off w.bytes.items answer io first

-- a later piece of a write is a plain write of what came out
write_later : (n : ℕ) (t : Stage) (v : World) (s : Objects) (blocks : Blocks) (p fd i off : ℕ)
    (given : List ℕ) (answer : Option Answer) (io : List Bool) → (n ≡ 0 → ⊥) →
    stream_write_piece n t v s blocks p fd i off given answer io
    ≡ write_piece (file_block v (s.things.file p fd) i off (length t.bytes)) v s blocks p off t.bytes
    (registers_of answer) io
write_later zero t v s blocks p fd i off given answer io later = absurd (later refl)
write_later (suc n) t v s blocks p fd i off given answer io later = refl

-- so is that of a call in flight
pub second_write : (w : Work) (fd i off : ℕ) (v : World) (s : Objects) (blocks : Blocks)
    (ram : List ℕ) (answer : Option (List ℕ)) (io : List Bool) → w.call ≡ bare.StreamWrite fd i off →
    (w.piece ≡ 0 → ⊥) →
    stream_piece (call_of w) (stage_of w) v s blocks w.caller (answer_seen ram w.caller answer) io
    ≡ write_piece (file_block v (s.things.file w.caller fd) i off (length w.carried.items)) v s
    blocks w.caller off w.carried.items answer io
second_write w fd i off v s blocks ram answer io is later =
    let seen = answer_seen ram w.caller answer in
    ap (λ (x : BareCall).
    stream_piece (call_with x w.bytes.items) (stage_of w) v s blocks w.caller seen io) is
    ∙ write_later w.piece (stage_of w) v s blocks w.caller fd i off w.bytes.items seen io later
    ∙ ap (λ (x : Option (List ℕ)).
    write_piece (file_block v (s.things.file w.caller fd) i off (length w.carried.items)) v s
    blocks w.caller off w.carried.items x io) (registers_seen ram w.caller answer)

-- ---- what came of a piece, in other words

-- a piece that is another one, and gave what that gave
pub came_as : (q r : Piece) (s : Objects) (known : Option (List (List ℕ)))
    (gave here : Option (List ℕ)) (after : After) (n : ℕ) → q ≡ r → gave ≡ here →
    PieceMatches r s known here after n → PieceMatches q s known gave after n
came_as q r s known gave here after n is same came =
    subst (λ (x : Piece). PieceMatches x s known gave after n) (sym is)
    (subst (λ (x : Option (List ℕ)). PieceMatches r s known x after n) (sym same) came)
