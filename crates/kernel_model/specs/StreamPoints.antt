-- The table of stream points. The graft at point 14 of a process changes what its stream reads
-- give, and the one at point 15 what its stream writes put. `sread` and `swrite`, and `install`,
-- `remove`, `fund` and `bill` at these points, are calls of this table. docs/CALLS.md describes
-- them.
use Rattle.std.specs.Prelude.{ℕ, zero, suc, ◌+◌, ◌-◌, Bool, true, false, cond, ◌&&◌, ◌||◌, ◌==◌}
use Rattle.std.specs.Prelude.{nat_le, nat_lt, List, [], ◌∷◌, length, slice_range, Option, Some}
use Rattle.std.specs.Prelude.{None, Result, Ok, Err}
use Rattle.kernel_data.specs.declared.Need.{Need}
use Rattle.kernel_data.specs.declared.Point.{Point}
use Rattle.kernel_data.specs.declared.Object.TheVariants.{OpenFile}
use Rattle.kernel_data.specs.declared.SysCall.{SysCall}
use Rattle.kernel_data.specs.declared.SysCall.TheVariants.{Read, Write, Install, Remove, Fund}
use Rattle.kernel_data.specs.declared.SysCall.TheVariants.{Bill, StreamRead, StreamWrite}
use Rattle.kernel_data.specs.declared.Refusal.{Refusal}
use Rattle.kernel_data.specs.declared.Refusal.TheVariants.{BadPoint}
use Rattle.kernel_data.specs.World.{World, ImageTable, Blocks}
use Rattle.kernel_data.specs.Objects.{Objects, Things}
use Rattle.kernel_model.specs.Meaning.{Meaning, Stage, Answer, Piece, Continues, registers_of}
use Rattle.kernel_model.specs.Early.{call_refusal, begins_unless}
use Rattle.kernel_model.specs.Needs.{shared, point_needs, fetch_needs, fetch_ask, file_block, piece_needs, piece_ask}
use Rattle.kernel_model.specs.Fetch.{Fetched, Got, Failed, fetch, bytes_of}
use Rattle.kernel_model.specs.FilePieces.{leaves, refuses, well, disk_failed, with_cache}
use Rattle.kernel_model.specs.Pieces.{piece_of}

-- ---- points

-- the point of stream reads
abbrev pub READ_POINT : ℕ
READ_POINT = 14

-- the point of stream writes
abbrev pub WRITE_POINT : ℕ
WRITE_POINT = 15

-- a point is one of the stream points
abbrev pub is_stream_point : ℕ → Bool
is_stream_point pt = pt == READ_POINT || pt == WRITE_POINT

-- the calls of this table
abbrev pub is_stream_call : SysCall → Bool
is_stream_call (StreamRead fd i off len) = true
is_stream_call (StreamWrite fd i off bytes) = true
is_stream_call (Install pt i limit) = is_stream_point pt
is_stream_call (Remove pt) = is_stream_point pt
is_stream_call (Fund pt kind n) = is_stream_point pt
is_stream_call (Bill pt) = is_stream_point pt
is_stream_call c = false

-- of the refusals that need no object, the one with the least number: as for `read` and `write`,
-- and as for the calls on grafts at any point up to 15
abbrev pub stream_refusal : World → ImageTable → ℕ → SysCall → Option Refusal
stream_refusal v images p (StreamRead fd i off len) =
    call_refusal WRITE_POINT v images p (Read fd i off len)
stream_refusal v images p (StreamWrite fd i off bytes) =
    call_refusal WRITE_POINT v images p (Write fd i off bytes)
stream_refusal v images p c =
    cond (is_stream_call c) (call_refusal WRITE_POINT v images p c) (Some BadPoint)

-- ---- bytes that go through a point

-- The bytes that come out of a point: the answer's, or by default those that went in.
abbrev pub through : Option Answer → List ℕ → List ℕ
through None bytes = bytes
through (Some a) bytes = a.body

-- a point is asked with the number of bytes, the block, the offset and the descriptor
abbrev pub stream_point : (p pt : ℕ) → (count i off fd : ℕ) → Point
stream_point p pt count i off fd =
    record { installer = p; point = pt; args = count ∷ i ∷ off ∷ fd ∷ [] }

-- ---- reads

-- first the file and the block, then the point
abbrev pub stream_read_needs : ℕ → World → Objects → (p fd i off len : ℕ) → List Need
stream_read_needs zero v s p fd i off len =
    shared (OpenFile p fd) ∷ fetch_needs v s (file_block v (s.things.file p fd) i off len)
stream_read_needs (suc n) v s p fd i off len = point_needs s.accounts p READ_POINT

-- the point of a fetch, then that of the stream
abbrev pub stream_read_ask : ℕ → World → Things → (p fd i off len count : ℕ) → Option Point
stream_read_ask zero v w p fd i off len count =
    fetch_ask v w (file_block v (w.file p fd) i off len)
stream_read_ask (suc n) v w p fd i off len count = Some (stream_point p READ_POINT count i off fd)

-- the first piece, after the block is fetched: its bytes go into the call
abbrev pub stream_taken : SysCall → Objects → Blocks → (off len : ℕ) → Fetched → Piece
stream_taken c s blocks off len (Failed calls) = disk_failed s blocks calls
stream_taken c s blocks off len (Got cache after frame calls) =
    record (leaves (with_cache cache s) after
    (Continues (record {
      call = c;
      piece = 1;
      handlers = [];
      answers = 0;
      bytes = slice_range (bytes_of cache frame) off (off + len);
    }))) { calls = calls }

-- the first piece, for the block that it names
abbrev pub stream_fetches : Result ℕ Refusal → SysCall → World → Objects → Blocks →
    (p off len : ℕ) → Option Answer → List Bool → Piece
stream_fetches (Err refusal) c v s blocks p off len answer io = refuses s blocks refusal
stream_fetches (Ok b) c v s blocks p off len answer io =
    stream_taken c s blocks off len
    (fetch v (s.things.pol 1) p b (registers_of answer) s.things.cache blocks io)

-- The first piece takes the bytes into the call, and leaves the open file as it is. The second
-- gives what comes out of the point of stream reads.
abbrev pub stream_read_piece : ℕ → Stage → World → Objects → Blocks → (p fd i off len : ℕ) →
    Option Answer → List Bool → Piece
stream_read_piece zero t v s blocks p fd i off len answer io =
    stream_fetches (file_block v (s.things.file p fd) i off len) t.call v s blocks p off len
    answer io
stream_read_piece (suc n) t v s blocks p fd i off len answer io =
    record (leaves s blocks well) { gave = Some (through answer t.bytes) }

-- ---- writes

-- the objects of the point of stream writes, if the file has these bytes
abbrev pub stream_point_needs : Objects → ℕ → Result ℕ Refusal → List Need
stream_point_needs s p (Err refusal) = []
stream_point_needs s p (Ok b) = point_needs s.accounts p WRITE_POINT

-- first the file and the point, then the objects of a write of what came out
abbrev pub stream_write_needs : ℕ → World → Objects → (p fd i off : ℕ) → (given out : List ℕ) →
    List Need
stream_write_needs zero v s p fd i off given out =
    shared (OpenFile p fd)
    ∷ stream_point_needs s p (file_block v (s.things.file p fd) i off (length given))
stream_write_needs (suc n) v s p fd i off given out = piece_needs (Write fd i off out) 0 v s p

-- the point, if the file has these bytes
abbrev pub stream_write_asks : (p fd i off count : ℕ) → Result ℕ Refusal → Option Point
stream_write_asks p fd i off count (Err refusal) = None
stream_write_asks p fd i off count (Ok b) = Some (stream_point p WRITE_POINT count i off fd)

-- the point of stream writes, then that of a write of what came out
abbrev pub stream_write_ask : ℕ → World → Things → (p fd i off : ℕ) → (given out : List ℕ) →
    Option Point
stream_write_ask zero v w p fd i off given out =
    stream_write_asks p fd i off (length given)
    (file_block v (w.file p fd) i off (length given))
stream_write_ask (suc n) v w p fd i off given out = piece_ask (Write fd i off out) 0 v w p

-- what came out of the point goes into the call, unless the call is refused
abbrev pub stream_changed : Result ℕ Refusal → SysCall → Objects → Blocks → List ℕ → Piece
stream_changed (Err refusal) c s blocks out = refuses s blocks refusal
stream_changed (Ok b) c s blocks out =
    leaves s blocks
    (Continues (record { call = c; piece = 1; handlers = []; answers = 0; bytes = out }))

-- The first piece takes what comes out of the point of stream writes into the call. The second is
-- a write of it.
abbrev pub stream_write_piece : ℕ → Stage → World → Objects → Blocks → (p fd i off : ℕ) →
    (given : List ℕ) → Option Answer → List Bool → Piece
stream_write_piece zero t v s blocks p fd i off given answer io =
    stream_changed (file_block v (s.things.file p fd) i off (length given)) t.call s blocks
    (through answer given)
stream_write_piece (suc n) t v s blocks p fd i off given answer io =
    piece_of (Write fd i off t.bytes) 0 v s blocks p (registers_of answer) io

-- ---- the table

-- the objects of the next piece
abbrev pub stream_needs : SysCall → Stage → World → Objects → ℕ → List Need
stream_needs (StreamRead fd i off len) t v s p = stream_read_needs t.piece v s p fd i off len
stream_needs (StreamWrite fd i off bytes) t v s p =
    stream_write_needs t.piece v s p fd i off bytes t.bytes
stream_needs c t v s p = piece_needs c t.piece v s p

-- the point that the next piece asks
abbrev pub stream_ask : SysCall → Stage → World → Things → ℕ → Option Point
stream_ask (StreamRead fd i off len) t v w p =
    stream_read_ask t.piece v w p fd i off len (length t.bytes)
stream_ask (StreamWrite fd i off bytes) t v w p =
    stream_write_ask t.piece v w p fd i off bytes t.bytes
stream_ask c t v w p = None

-- the bytes that are fed to a stream's graft: those that were read, or will be written
abbrev pub stream_feed : SysCall → ℕ → (carried : List ℕ) → List ℕ
stream_feed (StreamRead fd i off len) n carried = carried
stream_feed (StreamWrite fd i off bytes) zero carried = bytes
stream_feed c n carried = []

-- the next piece
abbrev pub stream_piece : SysCall → Stage → World → Objects → Blocks → ℕ → Option Answer →
    List Bool → Piece
stream_piece (StreamRead fd i off len) t v s blocks p answer io =
    stream_read_piece t.piece t v s blocks p fd i off len answer io
stream_piece (StreamWrite fd i off bytes) t v s blocks p answer io =
    stream_write_piece t.piece t v s blocks p fd i off bytes answer io
stream_piece c t v s blocks p answer io =
    piece_of c t.piece v s blocks p (registers_of answer) io

-- A read carries nothing before its first piece, and then at most a block's bytes of a block that a
-- file may have; a write carries bytes that fit into a block.
abbrev pub stream_fits : SysCall → Stage → Bool
stream_fits (StreamRead fd i off len) t =
    cond (t.piece == 0) (length t.bytes == 0)
    (t.piece == 1 && (nat_le (length t.bytes) 512 && nat_lt i 4096))
stream_fits (StreamWrite fd i off bytes) t =
    cond (t.piece == 0) true (t.piece == 1 && nat_le (off + length t.bytes) 512)
stream_fits c t = is_stream_call c && t.piece == 0

-- how many pieces a call may still take: a read and a write have two in all
abbrev pub stream_left : SysCall → ℕ → ℕ
stream_left (StreamRead fd i off len) n = 2 - n
stream_left (StreamWrite fd i off bytes) n = 2 - n
stream_left c n = 1

-- the meaning of the calls of stream points; all others are refused
abbrev pub stream_points : Meaning
stream_points =
    record {
      early = λ v images p c. begins_unless c (stream_refusal v images p c);
      need = λ v s p t. stream_needs t.call t v s p;
      asks = λ v s p t. stream_ask t.call t v s.things p;
      feed = λ t. stream_feed t.call t.piece t.bytes;
      piece = λ v images s blocks p t answer io. stream_piece t.call t v s blocks p answer io;
      fits = λ v s p t. stream_fits t.call t;
      left = λ v s p t. stream_left t.call t.piece;
    }
