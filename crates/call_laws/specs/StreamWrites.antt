-- What a stream write that ends well puts is what came out of its point.
use Rattle.std.specs.Prelude.{◌≡◌, ℕ, ◌+◌, ◌-◌, ◌≤◌, Bool, true, length, take, drop, slice_range}
use Rattle.std.specs.Prelude.{List, ◌++◌, Option, Some, None, is_some, Result, Ok, Err}
use Rattle.std.proofs.Common.{arith, refl, ap, sym, subst, ◌∙◌}
use Rattle.std.proofs.lemmas.List.{append_assoc, length-take-le}
use Rattle.std.proofs.Math.Seq.{take-append_seam, drop-append_seam}
use Rattle.kernel_model.specs.declared.QueueRow.{QueueRow}
use Rattle.kernel_model.specs.declared.Refusal.{Refusal}
use Rattle.kernel_model.specs.declared.SysCall.{SysCall}
use Rattle.kernel_model.specs.declared.SysCall.TheVariants.{StreamWrite}
use Rattle.kernel_model.specs.World.{World, ImageTable, Blocks}
use Rattle.kernel_model.specs.Objects.{Objects, FrameValue, CacheValue}
use Rattle.kernel_model.specs.Meaning.{Stage, stage, Continues, registers_of}
use Rattle.kernel_model.specs.Needs.{file_block, frame_of_block}
use Rattle.kernel_model.specs.Fetch.{Fetched, Got, Failed, fetch, bytes_with, patched, with_patch}
use Rattle.kernel_model.specs.FilePieces.{well, write_fetched, write_piece}
use Rattle.kernel_model.specs.StreamPoints.{stream_changed, through}
use Rattle.call_laws.specs.FetchCases.{in_use_listed, not_found}
use Rattle.call_laws.specs.Ledgers.{at_here}
use Rattle.call_laws.specs.SoundCaches.{IsSoundCache, cache_of_store}
use Rattle.call_laws.specs.FetchedFrames.{HoldsBlock, NamesBlock, found_holds, fetch_names}
use Rattle.call_laws.specs.StreamPlainStages.{in_block}
use Rattle.call_laws.specs.StreamCarried.{second_stage}
use Rattle.call_laws.specs.StreamKeeping.{pieces_of_streams}
use Rattle.call_laws.specs.PiecesInARow.{Setting, piece_on, MayRun, named_block}

-- the frame in use that holds a block
abbrev pub frame_holding : CacheValue → ℕ → Option FrameValue
frame_holding c b = elim (frame_of_block c b) [ None ↦ None | Some f ↦ c.frame f ]

-- a frame has these bytes at an offset, and is dirty: they will be written to the disk
abbrev pub HasAt : ℕ → List ℕ → Option FrameValue → Type 0
HasAt off bytes None = ⊥
HasAt off bytes (Some x) =
    (slice_range x.bytes off (off + length bytes) ≡ bytes) × (x.dirty ≡ true)

-- After a stream write that ends well, the frame that holds its block has what came out of the point
-- for the given bytes, at the write's offset.
abbrev pub WritesPutWhatCameOut : Type 0
WritesPutWhatCameOut =
    (v : World) (images : ImageTable) (p fd i off b : ℕ) (given : List ℕ) (first second : Setting)
    (u : Stage) → MayRun v images p (stage (StreamWrite fd i off given) 0) first →
    (piece_on v images p (stage (StreamWrite fd i off given) 0) first).after ≡ Continues u →
    MayRun v images p u second →
    file_block v (second.objects.things.file p fd) i off (length (through first.answer given))
    ≡ Ok b →
    (piece_on v images p u second).after ≡ well →
    HasAt off (through first.answer given)
    (frame_holding (piece_on v images p u second).objects.things.cache b)

-- ---- bytes in a frame

-- bytes that were put stand where they were put
put_there : (off : ℕ) (new old : List ℕ) → off ≤ length old →
    slice_range (bytes_with off new old) off (off + length new) ≡ new
put_there off new old within =
    let front = take off old in
    let rest = new ++ drop (off + length new) old in
    let count : off + length new - off ≡ length new = omega arith in
    ap (λ bytes. slice_range bytes off (off + length new))
    (append_assoc front new (drop (off + length new) old))
    ∙ ap (λ n. take n (drop off (front ++ rest))) count
    ∙ ap (λ n. take (length new) (drop n (front ++ rest))) (sym (length-take-le off old within))
    ∙ ap (take (length new)) (drop-append_seam front rest)
    ∙ take-append_seam new (drop (off + length new) old)

-- a frame that holds a block has them, once they are put in
put_has : (b off : ℕ) (new : List ℕ) (x : Option FrameValue) → off ≤ 512 → HoldsBlock b x →
    HasAt off new (patched off new x)
put_has b off new None within holds = absurd holds
put_has b off new (Some x) within holds =
    let whole = holds.1 in (put_there off new x.bytes (omega (arith, whole, within)), refl)

-- ---- the frame that holds a block

-- in a sound cache a frame that holds a block is the one that is found for it
holding_is : (v : World) (queue : List QueueRow) (c : CacheValue) (b f : ℕ) (x : FrameValue) →
    IsSoundCache v queue c → c.frame f ≡ Some x → x.block ≡ b → frame_holding c b ≡ Some x
holding_is v queue c b f x sound there block = by_held (frame_of_block c b) refl
  where
    -- another frame that holds it is the same
    one : (g : ℕ) (y : Option FrameValue) → c.frame g ≡ y → HoldsBlock b y → c.frame g ≡ Some x
    one g None other holds = absurd holds
    one g (Some y) other holds =
        ap c.frame (sound.one_frame g f y x other there (holds.0 ∙ sym block)) ∙ there

    -- by the frame that is found
    by_held : (held : Option ℕ) → frame_of_block c b ≡ held →
        elim held as (λ (q : Option ℕ). Option FrameValue) [ None ↦ None | Some g ↦ c.frame g ]
        ≡ Some x
    by_held None e =
        absurd (not_found c b c.lru f x e
        (in_use_listed v queue c f sound (ap (λ (y : Option FrameValue). is_some y) there)) there
        block)
    by_held (Some g) e = one g (c.frame g) refl (found_holds v queue c b c.lru g sound e)

-- so what is put into it stands in it
put_has_at : (v : World) (queue : List QueueRow) (c : CacheValue) (b f off : ℕ) (new : List ℕ)
    (x : Option FrameValue) → c.frame f ≡ x → off ≤ 512 → HoldsBlock b x →
    IsSoundCache v queue (with_patch f off new c) →
    HasAt off new (frame_holding (with_patch f off new c) b)
put_has_at v queue c b f off new None there within holds sound = absurd holds
put_has_at v queue c b f off new (Some x) there within holds sound =
    let put = patched off new (Some x) in
    let here : (with_patch f off new c).frame f ≡ put =
    at_here f (patched off new (c.frame f)) c.frame ∙ ap (patched off new) there in
    subst (HasAt off new)
    (sym (holding_is v queue (with_patch f off new c) b f
    (record x { dirty = true; bytes = bytes_with off new x.bytes }) sound here holds.0))
    (put_has b off new (Some x) within holds)

-- ---- the two pieces

-- a write that ends well, once its block is fetched
fetched_puts : (v : World) (queue : List QueueRow) (s : Objects) (blocks : Blocks) (b off : ℕ)
    (new : List ℕ) (x : Fetched) → off ≤ 512 → NamesBlock b x →
    IsSoundCache v queue (write_fetched s blocks off new x).objects.things.cache →
    (write_fetched s blocks off new x).after ≡ well →
    HasAt off new (frame_holding (write_fetched s blocks off new x).objects.things.cache b)
fetched_puts v queue s blocks b off new (Failed calls) within names sound e = absurd cc
fetched_puts v queue s blocks b off new (Got cache after frame calls) within names sound e =
    put_has_at v queue cache b frame off new (cache.frame frame) refl within names sound

-- a write that ends well, for the block that it names
write_puts : (r : Result ℕ Refusal) (v : World) (queue : List QueueRow) (s : Objects)
    (blocks : Blocks) (p b off : ℕ) (new : List ℕ) (answer : Option (List ℕ)) (io : List Bool) →
    off ≤ 512 → r ≡ Ok b →
    NamesBlock b (fetch v (s.things.pol 1) p b answer s.things.cache blocks io) →
    IsSoundCache v queue (write_piece r v s blocks p off new answer io).objects.things.cache →
    (write_piece r v s blocks p off new answer io).after ≡ well →
    HasAt off new
    (frame_holding (write_piece r v s blocks p off new answer io).objects.things.cache b)
write_puts (Err why) v queue s blocks p b off new answer io within same names sound e = absurd cc
write_puts (Ok a) v queue s blocks p b off new answer io within same names sound e =
    let one : a ≡ b = cc in
    fetched_puts v queue s blocks b off new
    (fetch v (s.things.pol 1) p a answer s.things.cache blocks io) within
    (subst (λ n. NamesBlock b (fetch v (s.things.pol 1) p n answer s.things.cache blocks io))
    (sym one) names) sound e

-- what holds of the stage that carries what came out holds of that to which a write goes on
changed_carries : (P : Stage → Type 0) (r : Result ℕ Refusal) (c : SysCall) (s : Objects)
    (blocks : Blocks) (out : List ℕ) (u : Stage) → P (second_stage c out) →
    (stream_changed r c s blocks out).after ≡ Continues u → P u
changed_carries P (Err why) c s blocks out u all e = absurd cc
changed_carries P (Ok b) c s blocks out u all e =
    let same : second_stage c out ≡ u = cc in subst P same all

-- the second piece puts what it carries
second_puts : (v : World) (images : ImageTable) (p fd i off b : ℕ) (given out : List ℕ)
    (second : Setting) → off ≤ 512 →
    MayRun v images p (second_stage (StreamWrite fd i off given) out) second →
    file_block v (second.objects.things.file p fd) i off (length out) ≡ Ok b →
    (piece_on v images p (second_stage (StreamWrite fd i off given) out) second).after ≡ well →
    HasAt off out (frame_holding
    (piece_on v images p
    (second_stage (StreamWrite fd i off given) out) second).objects.things.cache b)
second_puts v images p fd i off b given out second within h e ends =
    let t = second_stage (StreamWrite fd i off given) out in
    let s = second.objects in
    let x = piece_on v images p t second in
    let whole = h.whole b (named_block v images p t second fd i off (length out) b h e).on_disk in
    write_puts (file_block v (s.things.file p fd) i off (length out)) v x.objects.things.queue s
    second.blocks p b off out (registers_of second.answer) second.io within e
    (fetch_names v s.things.queue (s.things.pol 1) p b (registers_of second.answer) s.things.cache
    second.blocks second.io (cache_of_store v s h.ready.standing.store) whole)
    (cache_of_store v x.objects
    (pieces_of_streams.store v images s second.blocks p t second.answer second.io h.ready h.whole))
    ends

-- a stream write that ends well puts what came out of its point
pub writes_put_what_came_out : WritesPutWhatCameOut
writes_put_what_came_out v images p fd i off b given first second u ready goes later named ends =
    let c = StreamWrite fd i off given in
    let out = through first.answer given in
    let s = first.objects in
    let within = (in_block c fd off (length given) ready.ready.standing.granted).within in
    changed_carries
    (λ t. MayRun v images p t second → (piece_on v images p t second).after ≡ well →
    HasAt off out (frame_holding (piece_on v images p t second).objects.things.cache b))
    (file_block v (s.things.file p fd) i off (length given)) c s first.blocks out u
    (λ h end. second_puts v images p fd i off b given out second (omega (arith, within)) h named
    end) goes later ends
