-- Stages of the plain table whose pieces do what pieces of this table do, or need the same objects;
-- and that a call stands there where it stands here.
use Rattle.std.specs.Prelude.{◌≡◌, ℕ, zero, suc, ◌+◌, ◌≤◌, ◌<◌, ◌==◌, Bool, true, false, cond}
use Rattle.std.specs.Prelude.{nat_lt, length, replicate, List, Option, Some, None}
use Rattle.std.specs.Result.{is_ok}
use Rattle.std.proofs.Common.{arith, refl, subst}
use Rattle.std.proofs.lemmas.Bool.{and_parts}
use Rattle.std.proofs.lemmas.Bool.Decides.{nat_tests}
use Rattle.kernel_model.specs.declared.Refusal.{Refusal}
use Rattle.kernel_model.specs.declared.Refusal.TheVariants.{BadPoint, BadFd, BadIndex}
use Rattle.kernel_model.specs.declared.SysCall.{SysCall}
use Rattle.kernel_model.specs.declared.SysCall.TheVariants.{Read, Write, Install, Remove, Fund}
use Rattle.kernel_model.specs.declared.SysCall.TheVariants.{Bill, StreamRead, StreamWrite}
use Rattle.kernel_model.specs.World.{World, ImageTable}
use Rattle.kernel_model.specs.Objects.{Objects}
use Rattle.kernel_model.specs.Meaning.{Meaning, Stage, stage, Answer, registers_of}
use Rattle.kernel_model.specs.Early.{begins_unless, call_refusal, refused}
use Rattle.kernel_model.specs.Pieces.{plain_upto}
use Rattle.kernel_model.specs.StreamPoints.{READ_POINT, WRITE_POINT, is_stream_point}
use Rattle.kernel_model.specs.StreamPoints.{is_stream_call, stream_fits, stream_points}
use Rattle.kernel_model.specs.Laws.{Laws, IsStanding, IsReady, IsRightAnswer}
use Rattle.call_laws.specs.PlainLaws.{laws_of_plain_upto}

-- the plain table, with the points of streams
abbrev pub plain_table : Meaning
plain_table = plain_upto WRITE_POINT

-- its laws
pub plain_laws : Laws plain_table
plain_laws = laws_of_plain_upto WRITE_POINT (omega arith)

-- ---- stages

-- a stage of this call before the piece of this number, which carries what t carries
abbrev pub at_stage : SysCall → ℕ → Stage → Stage
at_stage c n t = record t { call = c; piece = n }

-- a piece that no piece of the plain table does
abbrev pub is_own : SysCall → ℕ → Bool
is_own (StreamRead fd i off len) n = true
is_own (StreamWrite fd i off given) zero = true
is_own c n = false

-- The plain stage whose piece does what any other piece does: the second piece of a write is a
-- write of what came out.
abbrev pub plain_stage : SysCall → ℕ → Stage → Stage
plain_stage (StreamWrite fd i off given) n t = stage (Write fd i off t.bytes) 0
plain_stage c n t = at_stage c n t

-- the first piece of a write, which needs what no plain piece does
abbrev pub is_first_write : SysCall → ℕ → Bool
is_first_write (StreamWrite fd i off given) zero = true
is_first_write c n = false

-- The plain stage that needs what any other piece does: the first piece of a read needs what a write
-- of as many bytes does, and the second what is needed to take the graft at its point out.
abbrev pub need_stage : SysCall → ℕ → Stage → Stage
need_stage (StreamRead fd i off len) zero t = stage (Write fd i off (replicate len 0)) 0
need_stage (StreamRead fd i off len) (suc n) t = stage (Remove READ_POINT) 0
need_stage c n t = plain_stage c n t

-- ---- what isn't refused

-- a call isn't refused
abbrev IsGranted : SysCall → Option Refusal → Type 0
IsGranted c refusal = is_ok (begins_unless c refusal) ≡ true

-- a call of this table that isn't refused here isn't refused there
granted_part : (c : SysCall) (b : Bool) (refusal : Option Refusal) →
    IsGranted c (cond b refusal (Some BadPoint)) → IsGranted c refusal
granted_part c true refusal h = h
granted_part c false refusal h = cc

-- the refusal of a read or a write of so many bytes
abbrev range_refusal : (fd off count : ℕ) → Option Refusal
range_refusal fd off count =
    refused (nat_lt 3 fd) BadFd (refused (nat_lt 512 (off + count)) BadIndex None)

-- a read or a write of such bytes isn't refused
pub range_granted : (c : SysCall) (fd off count : ℕ) → fd < 4 → off + count ≤ 512 →
    IsGranted c (range_refusal fd off count)
range_granted c fd off count low within = grind (arith, nat_tests)

-- bytes are of one of four descriptors, and lie within a block
pub record IsInBlock (fd off count : ℕ) : Type 0 where
  pub descriptor : fd < 4
  pub within : off + count ≤ 512

-- so are those of a read or a write that isn't refused
pub in_block : (c : SysCall) (fd off count : ℕ) → IsGranted c (range_refusal fd off count) →
    IsInBlock fd off count
in_block c fd off count h = record {
  descriptor = grind (arith, nat_tests);
  within = grind (arith, nat_tests);
}

-- ---- what a stage carries

-- before the second piece of a read: at most a block's bytes, of a block that a file may have
pub record CarriesRead (n i count : ℕ) : Type 0 where
  pub second : n ≡ 1
  pub bytes : count ≤ 512
  pub block : i < 4096

-- a read that may stand there carries these
pub read_carries : (fd i off len n : ℕ) (t : Stage) →
    stream_fits (StreamRead fd i off len) (at_stage (StreamRead fd i off len) (suc n) t) ≡ true →
    CarriesRead (suc n) i (length t.bytes)
read_carries fd i off len n t fits = record {
  second = grind (arith, nat_tests);
  bytes = grind (arith, nat_tests);
  block = grind (arith, nat_tests);
}

-- before the second piece of a write: bytes that fit into the block
pub record CarriesWrite (n off count : ℕ) : Type 0 where
  pub second : n ≡ 1
  pub within : off + count ≤ 512

-- a write that may stand there carries these
pub write_carries : (fd i off n : ℕ) (given : List ℕ) (t : Stage) →
    stream_fits (StreamWrite fd i off given) (at_stage (StreamWrite fd i off given) (suc n) t)
    ≡ true →
    CarriesWrite (suc n) off (length t.bytes)
write_carries fd i off n given t fits = record {
  second = grind (arith, nat_tests);
  within = grind (arith, nat_tests);
}

-- ---- calls that stand

-- the plain stage fits
pub plain_fits : (c : SysCall) (n : ℕ) (t : Stage) (v : World) (s : Objects) (p : ℕ) →
    is_own c n ≡ false → stream_fits c (at_stage c n t) ≡ true →
    plain_table.fits v s p (plain_stage c n t) ≡ true
plain_fits (StreamRead fd i off len) n t v s p own fits = cc
plain_fits (StreamWrite fd i off given) zero t v s p own fits = cc
plain_fits (StreamWrite fd i off given) (suc n) t v s p own fits = refl
plain_fits (Install pt i limit) n t v s p own fits =
    (and_parts (is_stream_point pt) (n == 0) fits).1
plain_fits (Remove pt) n t v s p own fits = (and_parts (is_stream_point pt) (n == 0) fits).1
plain_fits (Fund pt kind x) n t v s p own fits = (and_parts (is_stream_point pt) (n == 0) fits).1
plain_fits (Bill pt) n t v s p own fits = (and_parts (is_stream_point pt) (n == 0) fits).1
plain_fits c n t v s p own fits = cc

-- its call isn't refused
plain_granted : (c : SysCall) (n : ℕ) (t : Stage) (v : World) (images : ImageTable) (p : ℕ) →
    is_own c n ≡ false → is_ok (stream_points.early v images p c) ≡ true →
    stream_fits c (at_stage c n t) ≡ true →
    is_ok (plain_table.early v images p (plain_stage c n t).call) ≡ true
plain_granted (StreamRead fd i off len) n t v images p own granted fits = cc
plain_granted (StreamWrite fd i off given) zero t v images p own granted fits = cc
plain_granted (StreamWrite fd i off given) (suc n) t v images p own granted fits =
    range_granted (Write fd i off t.bytes) fd off (length t.bytes)
    (in_block (StreamWrite fd i off given) fd off (length given) granted).descriptor
    (write_carries fd i off n given t fits).within
plain_granted c n t v images p own granted fits =
    granted_part c (is_stream_call c) (call_refusal WRITE_POINT v images p c) granted

-- the point that it asks is the same
plain_asks : (c : SysCall) (n : ℕ) (t : Stage) (v : World) (s : Objects) (p : ℕ) →
    is_own c n ≡ false → stream_fits c (at_stage c n t) ≡ true →
    stream_points.asks v s p (at_stage c n t) ≡ plain_table.asks v s p (plain_stage c n t)
plain_asks (StreamRead fd i off len) n t v s p own fits = cc
plain_asks (StreamWrite fd i off given) zero t v s p own fits = cc
plain_asks (StreamWrite fd i off given) (suc n) t v s p own fits = refl
plain_asks (Install pt i limit) n t v s p own fits = refl
plain_asks (Remove pt) n t v s p own fits = refl
plain_asks (Fund pt kind x) n t v s p own fits = refl
plain_asks (Bill pt) n t v s p own fits = refl
plain_asks c n t v s p own fits = cc

-- the call stands there in the plain table
pub plain_stands : (c : SysCall) (n : ℕ) (t : Stage) (v : World) (images : ImageTable) (s : Objects)
    (p : ℕ) → is_own c n ≡ false → IsStanding stream_points v images s p (at_stage c n t) →
    IsStanding plain_table v images s p (plain_stage c n t)
plain_stands c n t v images s p own h = record {
  store = h.store;
  caller = h.caller;
  granted = plain_granted c n t v images p own h.granted h.fits;
  fits = plain_fits c n t v s p own h.fits;
}

-- and is ready
pub plain_ready : (c : SysCall) (n : ℕ) (t : Stage) (v : World) (images : ImageTable) (s : Objects)
    (p : ℕ) (answer : Option Answer) → is_own c n ≡ false →
    IsReady stream_points v images s p (at_stage c n t) answer →
    IsReady plain_table v images s p (plain_stage c n t) answer
plain_ready c n t v images s p answer own h = record {
  standing = plain_stands c n t v images s p own h.standing;
  disk = h.disk;
  right = subst (λ ask. IsRightAnswer s ask (registers_of answer))
      (plain_asks c n t v s p own h.standing.fits) h.right;
  body = h.body;
}

-- a read that stands before its first piece stands there in the plain table
read_stands : (fd i off len : ℕ) (t : Stage) (v : World) (images : ImageTable) (s : Objects)
    (p : ℕ) →
    IsStanding stream_points v images s p (at_stage (StreamRead fd i off len) 0 t) →
    IsStanding plain_table v images s p (stage (Read fd i off len) 0)
read_stands fd i off len t v images s p h =
    let here = in_block (StreamRead fd i off len) fd off len h.granted in record {
      store = h.store;
      caller = h.caller;
      granted = range_granted (Read fd i off len) fd off len here.descriptor here.within;
      fits = let low = here.descriptor in grind (arith, nat_tests);
    }

-- and is ready
pub read_ready : (fd i off len : ℕ) (t : Stage) (v : World) (images : ImageTable) (s : Objects)
    (p : ℕ) (answer : Option Answer) →
    IsReady stream_points v images s p (at_stage (StreamRead fd i off len) 0 t) answer →
    IsReady plain_table v images s p (stage (Read fd i off len) 0) answer
read_ready fd i off len t v images s p answer h = record {
  standing = read_stands fd i off len t v images s p h.standing;
  disk = h.disk;
  right = h.right;
  body = h.body;
}
