-- The clauses that many functions of this crate share, and the pieces and fetches of the
-- definitions on a store.
use Rattle.std.specs.Prelude.{◌≡◌, ℕ, ◌+◌, ◌<◌, ◌≤◌, Bool, true, false, List, [], ◌++◌, length, Option, Some, None}
use Rattle.kernel_model.specs.declared.OpenRow.{OpenRow}
use Rattle.kernel_model.specs.declared.QueueRow.{QueueRow}
use Rattle.kernel_model.specs.declared.SysCall.TheVariants.{Read}
use Rattle.kernel_model.specs.World.{World, Blocks}
use Rattle.kernel_model.specs.Objects.{Objects}
use Rattle.kernel_model.specs.Meaning.{Stage, Piece, stage}
use Rattle.kernel_model.specs.Policies.{lives, ahead_default}
use Rattle.kernel_model.specs.Laws.{IsRightAnswer}
use Rattle.kernel_model.specs.Needs.{file_block, ahead_block, piece_ask}
use Rattle.kernel_model.specs.Pieces.{piece_of}
use Rattle.kernel_model.specs.FilePieces.{read_piece, read_first_at, read_second, read_third_at}
use Rattle.kernel_model.specs.FilePieces.{ahead_by, write_piece, sync_from}
use Rattle.kernel_state.specs.Calls.{Knows, CallsExtend}
use Rattle.kernel_state.specs.declared.Store.{Store}
use Rattle.kernel_state.specs.Stores.{world_of_store, objects_of, queue_of, policies_of, SegmentsStay}
use Rattle.call_needs.specs.declared.Access.{Access}
use Rattle.call_needs.specs.declared.Work.{Work}
use Rattle.call_needs.specs.Works.{call_of, stage_of, IsPlainDue}
use Rattle.call_needs.specs.Needing.{block_meant}
use Rattle.call_needs.specs.Fetching.{StoreMoment, has_failed}
use Rattle.call_pieces.specs.declared.Next.{Next}
use Rattle.call_pieces.specs.Queues.{queue_after}
use Rattle.call_pieces.specs.Matching.{PieceMatches, PieceMatchesSome, comes_after, is_fault, goes_on}

-- ---- pieces without a call of the disk

-- a piece left these objects and came out as the definitions have it, whatever the disk tells, with
-- no call of it
abbrev pub CameAtOnce : (piece : Blocks → Piece) (s : Objects) (result : Next) → Type 0
CameAtOnce piece s result =
    (blocks : Blocks) (known : Option (List (List ℕ))) (t : Stage) → Knows known blocks →
    PieceMatches (piece blocks) s known None (comes_after result t) 0

-- A call ends with this piece, and not for the disk: the piece left the objects and came out as the
-- definitions have it. The queue is this; the world and the segments of grafts stay.
pub record EndsWithQueue {B : Type 0} {P : _} (piece : Blocks → Piece) (queue : List QueueRow)
    (old new : Store B P) (next : Next) : Type 0 where
  pub does : CameAtOnce piece (objects_of new) next
  pub queue_is : queue_of new ≡ queue
  pub ends : goes_on next ≡ false
  pub no_fault : is_fault next ≡ false
  pub world : world_of_store new ≡ world_of_store old
  pub memory : SegmentsStay old.ram new.ram

-- so it is, and the queue stays
abbrev pub EndsAtOnce : {B : Type 0} {P : _} → (piece : Blocks → Piece) → (old new : Store B P) →
    Next → Type 0
EndsAtOnce piece old new next = EndsWithQueue piece (queue_of old) old new next

-- a piece left these objects and came out as the definitions have it, before this stage, whatever
-- the disk tells, with no call of it; and not for the disk. The queue is this; the world and the
-- segments of grafts stay.
pub record ComesAtOnce {B : Type 0} {P : _} (piece : Blocks → Piece) (queue : List QueueRow)
    (old new : Store B P) (next : Next) (t : Stage) : Type 0 where
  pub does : (blocks : Blocks) (known : Option (List (List ℕ))) → Knows known blocks →
      PieceMatches (piece blocks) (objects_of new) known None (comes_after next t) 0
  pub queue_is : queue_of new ≡ queue
  pub no_fault : is_fault next ≡ false
  pub world : world_of_store new ≡ world_of_store old
  pub memory : SegmentsStay old.ram new.ram

-- ---- pieces with calls of the disk

-- A piece left these objects and came out as the definitions have it, where the disk told its
-- blocks before and tells them after, and these calls of it were made, whatever the calls after
-- them do.
abbrev pub CameBy : (piece : Blocks → List Bool →
    Piece) (s : Objects) (before after : Option (List (List ℕ)))
    (gave : Option (List ℕ)) (result : Next) (t : Stage) (log : List Bool) → Type 0
CameBy piece s before after gave result t log =
    (blocks : Blocks) (rest : List Bool) → Knows before blocks →
    PieceMatches (piece blocks (log ++ rest)) s after gave (comes_after result t) (length log)

-- so it is for some whole blocks, whether the disk tells its blocks or not
abbrev pub CameBySome : (v : World) (piece : Blocks → List Bool → Piece) (s : Objects)
    (gave : Option (List ℕ)) (result : Next) (t : Stage) (log : List Bool) → Type 0
CameBySome v piece s gave result t log = PieceMatchesSome v piece s gave (comes_after result t) log

-- a piece may call the disk: it is the store's, and no call of it was made so far
pub record DiskReady {B : Type 0} {P : _} (m : StoreMoment (Store B P)) : Type 0 where
  pub disk : m.store.size ≡ m.disk.size
  pub fresh : m.log ≡ []

-- The next piece of this work may be done, with this answer, or by default: it is due, the answer is
-- one that its point accepts, and the piece may call the disk.
pub record PieceReady {B : Type 0} {P : _} (work : Work) (answer : Option (List ℕ))
    (m : StoreMoment (Store B P)) : Type 0 where
  pub due : IsPlainDue (world_of_store m.store) (objects_of m.store) work.caller (stage_of work)
  pub right : IsRightAnswer (objects_of m.store) (piece_ask (call_of work) work.piece
      (world_of_store m.store) (objects_of m.store).things work.caller) answer
  pub disk : DiskReady m

-- a piece fails for the disk only where a call of it failed; the queue is this, and the world and
-- the segments of grafts stay
pub record PieceKeeps {B : Type 0} {P : _} (queue : List QueueRow) (old new : Store B P)
    (next : Next) (log : List Bool) : Type 0 where
  pub failed : is_fault next ≡ true → has_failed log ≡ true
  pub few : length log ≤ 256
  pub queue_is : queue_of new ≡ queue
  pub world : world_of_store new ≡ world_of_store old
  pub memory : SegmentsStay old.ram new.ram

-- A piece took the one moment to the other, gave these bytes, and stands before this stage if it
-- goes on: over the blocks that the disk told, or else over some whole ones, as the definitions have
-- it. The queue is this. The log goes on with the calls of the disk that it made.
pub record ServesWithQueue {B : Type 0} {P : _} (piece : Blocks → List Bool → Piece)
    (queue : List QueueRow) (old new : StoreMoment (Store B P)) (gave : Option (List ℕ)) (next : Next)
    (t : Stage) : Type 0 where
  pub does : CameBy piece (objects_of new.store) old.disk.known new.disk.known gave next t new.log
  pub some : CameBySome (world_of_store old.store) piece (objects_of new.store) gave next t new.log
  pub keeps : PieceKeeps queue old.store new.store next new.log
  pub calls : CallsExtend old.disk new.disk old.log new.log

-- so it is, and the queue stays
abbrev pub Serves : {B : Type 0} {P : _} → (piece : Blocks → List Bool → Piece) →
    (old new : StoreMoment (Store B P)) → Option (List ℕ) → Next → Stage → Type 0
Serves piece old new gave next t =
    ServesWithQueue piece (queue_of old.store) old new gave next t

-- so it is of the last piece of a call, which gives nothing
pub record ServesLast {B : Type 0} {P : _} (piece : Blocks → List Bool → Piece)
    (old new : StoreMoment (Store B P)) (next : Next) : Type 0 where
  pub does : (t : Stage) →
      CameBy piece (objects_of new.store) old.disk.known new.disk.known None next t new.log
  pub some : (t : Stage) →
      CameBySome (world_of_store old.store) piece (objects_of new.store) None next t new.log
  pub ends : goes_on next ≡ false
  pub keeps : PieceKeeps (queue_of old.store) old.store new.store next new.log
  pub calls : CallsExtend old.disk new.disk old.log new.log

-- ---- pieces of calls in flight

-- the definitions' next piece of a call in flight, with this answer
abbrev pub piece_on : {B : Type 0} {P : _} → Work → Store B P → Option (List ℕ) → Blocks →
    List Bool → Piece
piece_on w s answer =
    let o = objects_of s in
    λ blocks io. piece_of (call_of w) w.piece (world_of_store s) o blocks w.caller answer io

-- the queue after it
abbrev pub queue_on : {B : Type 0} {P : _} → Work → Store B P → Option (List ℕ) → List QueueRow
queue_on w s answer =
    queue_after (policies_of s 2) answer (call_of w) w.piece w.caller (queue_of s)

-- ---- pieces of reads and writes

-- the process of an access may have a piece of it, with no call of the disk so far
pub record AccessReady {B : Type 0} {P : _} (m : StoreMoment (Store B P)) (r : Access) : Type 0 where
  pub alive : lives (queue_of m.store) r.p ≡ true
  pub descriptor : r.fd < 4
  pub inside : r.off + r.len ≤ 512
  pub disk : m.store.size ≡ m.disk.size
  pub fresh : m.log ≡ []

-- where a read stands before its piece n
abbrev pub read_stage : Access → ℕ → Stage
read_stage r n = stage (Read r.fd r.i r.off r.len) n

-- the definitions' piece n of a read
abbrev pub read_of : {B : Type 0} {P : _} → Store B P → (n : ℕ) → Access → Blocks → List Bool →
    Piece
read_of s n r =
    let o = objects_of s in
    λ blocks io. read_piece n (world_of_store s) o blocks r.p r.fd r.i r.off r.len
    (o.things.file r.p r.fd) r.answer io

-- the first, with the open file
abbrev pub first_of : {B : Type 0} {P : _} → Store B P → Access → OpenRow → Blocks → List Bool →
    Piece
first_of s r opened =
    let block = file_block (world_of_store s) (Some opened) r.i r.off r.len in
    λ blocks io. read_first_at block (world_of_store s)
    (objects_of s) blocks r.p r.fd r.i r.off r.len opened r.answer io

-- the second
abbrev pub second_of : {B : Type 0} {P : _} → Store B P → Access → OpenRow → Blocks → Piece
second_of s r opened =
    let default = ahead_default (world_of_store s) (policies_of s 0) (Some opened) in
    λ blocks. read_second (objects_of s) blocks r.p r.fd r.i r.off r.len opened
    (ahead_by r.answer default)

-- a later one
abbrev pub later_of : {B : Type 0} {P : _} → Store B P → Access → OpenRow → Blocks → List Bool →
    Piece
later_of s r opened =
    let block = ahead_block (world_of_store s) (Some opened) in
    λ blocks io. read_third_at block (world_of_store s)
    (objects_of s) blocks r.p r.fd r.i r.off r.len opened r.answer io

-- the definitions' write of bytes
abbrev pub write_of : {B : Type 0} {P : _} → Store B P → Access → (bytes : List ℕ) → Blocks →
    List Bool → Piece
write_of s r bytes =
    let block = block_meant s r.p r.fd r.i r.off r.len in
    λ blocks io. write_piece block (world_of_store s) (objects_of s) blocks r.p r.off bytes
    r.answer io

-- the definitions' `sync`
abbrev pub sync_of : {B : Type 0} {P : _} → Store B P → Blocks → List Bool → Piece
sync_of s = λ blocks io. sync_from (world_of_store s).frames 0 0 (objects_of s) blocks io
