-- What a stream read gives is as long as was asked for.
use Rattle.std.specs.Prelude.{◌≡◌, ℕ, ◌+◌, ◌-◌, ◌≤◌, length, drop, slice_range, List, [], Bool}
use Rattle.std.specs.Prelude.{Option, Some, None, option_map, Result, Ok, Err}
use Rattle.std.proofs.Common.{arith, refl, ap, subst, ◌∙◌}
use Rattle.std.proofs.lemmas.List.{length-take, length-drop}
use Rattle.kernel_model.specs.declared.Refusal.{Refusal}
use Rattle.kernel_model.specs.declared.SysCall.{SysCall}
use Rattle.kernel_model.specs.declared.SysCall.TheVariants.{StreamRead}
use Rattle.kernel_model.specs.World.{World, ImageTable, Blocks}
use Rattle.kernel_model.specs.Objects.{Objects, FrameValue, CacheValue}
use Rattle.kernel_model.specs.Meaning.{Stage, stage, Answer, Continues, registers_of}
use Rattle.kernel_model.specs.Needs.{file_block}
use Rattle.kernel_model.specs.Fetch.{Fetched, Got, Failed, fetch, bytes_of}
use Rattle.kernel_model.specs.StreamPoints.{READ_POINT, stream_taken, stream_fetches}
use Rattle.call_laws.specs.SoundCaches.{cache_of_store}
use Rattle.call_laws.specs.StreamPlainStages.{in_block}
use Rattle.call_laws.specs.StreamCarried.{second_stage, through_length}
use Rattle.call_laws.specs.FetchedFrames.{HoldsBlock, NamesBlock, fetch_names}
use Rattle.call_laws.specs.PiecesInARow.{Setting, piece_on, MayRun, named_block}

-- A stream read gives bytes, as many as it asked for, whatever the graft at its point answers. Its
-- first piece takes them from a block and goes on, and its second gives what comes out.
abbrev pub ReadsGiveLength : Type 0
ReadsGiveLength =
    (v : World) (images : ImageTable) (p fd i off len : ℕ) (first second : Setting) (u : Stage) →
    MayRun v images p (stage (StreamRead fd i off len) 0) first →
    (piece_on v images p (stage (StreamRead fd i off len) 0) first).after ≡ Continues u →
    MayRun v images p u second →
    option_map (λ (bytes : List ℕ). length bytes) (piece_on v images p u second).gave ≡ Some len

-- a part of a whole block is as long as it says
part_length : (bytes : List ℕ) (off len : ℕ) → length bytes ≡ 512 → off + len ≤ 512 →
    length (slice_range bytes off (off + len)) ≡ len
part_length bytes off len whole within =
    let taken = length-take (off + len - off) (drop off bytes) in
    let left = length-drop off bytes in
    omega (arith, taken, left, whole, within)

-- the bytes of a frame that holds a block are a block's
frame_length : (b : ℕ) (c : CacheValue) (f : ℕ) (x : Option FrameValue) → c.frame f ≡ x →
    HoldsBlock b x → length (bytes_of c f) ≡ 512
frame_length b c f None e holds = absurd holds
frame_length b c f (Some x) e holds =
    ap (λ (y : Option FrameValue). length (elim y as (λ (z : Option FrameValue). List ℕ) [
      | None ↦ []
      | Some r ↦ r.bytes
    ])) e ∙ holds.1

-- what holds of each stage that carries so many bytes holds of that to which a read goes on
taken_carries : (P : Stage → Type 0) (c : SysCall) (s : Objects) (blocks : Blocks)
    (off len b : ℕ) (x : Fetched) (u : Stage) → off + len ≤ 512 → NamesBlock b x →
    ((carried : List ℕ) → length carried ≡ len → P (second_stage c carried)) →
    (stream_taken c s blocks off len x).after ≡ Continues u → P u
taken_carries P c s blocks off len b (Failed calls) u within names all e = absurd cc
taken_carries P c s blocks off len b (Got cache after frame calls) u within names all e =
    let carried = slice_range (bytes_of cache frame) off (off + len) in
    let same : second_stage c carried ≡ u = cc in
    subst P same
    (all carried (part_length (bytes_of cache frame) off len
    (frame_length b cache frame (cache.frame frame) refl names) within))

-- so of a read of the block that it names
fetches_carry : (P : Stage → Type 0) (r : Result ℕ Refusal) (c : SysCall) (v : World)
    (s : Objects) (blocks : Blocks) (p off len : ℕ) (answer : Option Answer) (io : List Bool)
    (u : Stage) → off + len ≤ 512 →
    ((b : ℕ) → r ≡ Ok b →
    NamesBlock b
    (fetch v (s.things.pol 1) p b (registers_of answer) s.things.cache blocks io)) →
    ((carried : List ℕ) → length carried ≡ len → P (second_stage c carried)) →
    (stream_fetches r c v s blocks p off len answer io).after ≡ Continues u → P u
fetches_carry P (Err why) c v s blocks p off len answer io u within names all e = absurd cc
fetches_carry P (Ok b) c v s blocks p off len answer io u within names all e =
    taken_carries P c s blocks off len b
    (fetch v (s.things.pol 1) p b (registers_of answer) s.things.cache blocks io) u within
    (names b refl) all e

-- the second piece gives as many bytes as it carries
second_gives : (v : World) (images : ImageTable) (p fd i off len : ℕ) (second : Setting)
    (carried : List ℕ) → length carried ≡ len → len ≤ 512 →
    MayRun v images p (second_stage (StreamRead fd i off len) carried) second →
    option_map (λ (bytes : List ℕ). length bytes)
    (piece_on v images p (second_stage (StreamRead fd i off len) carried) second).gave ≡ Some len
second_gives v images p fd i off len second carried same few h =
    let length_out = through_length second.objects p READ_POINT i off fd carried second.answer
    (omega (arith, same, few)) refl h.ready.right h.ready.body in
    ap (λ (n : ℕ). Some n) (length_out ∙ same)

-- what a stream read gives is as long as it asked for
pub reads_give_length : ReadsGiveLength
reads_give_length v images p fd i off len first second u ready goes =
    let c = StreamRead fd i off len in
    let within = (in_block c fd off len ready.ready.standing.granted).within in
    let s = first.objects in
    fetches_carry
    (λ t. MayRun v images p t second →
    option_map (λ (bytes : List ℕ). length bytes) (piece_on v images p t second).gave ≡ Some len)
    (file_block v (s.things.file p fd) i off len) c v s first.blocks p off len first.answer first.io
    u within
    (λ b e. fetch_names v s.things.queue (s.things.pol 1) p b (registers_of first.answer)
    s.things.cache first.blocks first.io (cache_of_store v s ready.ready.standing.store)
    (ready.whole b (named_block v images p (stage c 0) first fd i off len b ready e).on_disk))
    (λ carried same h. second_gives v images p fd i off len second carried same
    (omega (arith, within)) h) goes
