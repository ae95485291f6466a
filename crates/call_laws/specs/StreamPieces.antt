-- What the pieces of stream calls do: the first of a read is the first piece of a plain read that
-- takes its bytes into the call, the second of a read and the first of a write change nothing, and
-- every other does what its plain stage does.
use Rattle.std.specs.Prelude.{◌≡◌, ℕ, zero, suc, Bool, true, false, length, List, [], Option, Some}
use Rattle.std.specs.Prelude.{None, Result, Ok, Err}
use Rattle.std.proofs.Common.{refl, ap, sym, subst, inl, inr}
use Rattle.std.proofs.lemmas.Bool.{cases_Bool}
use Rattle.kernel_model.specs.declared.OpenRow.{OpenRow}
use Rattle.kernel_model.specs.declared.Refusal.{Refusal}
use Rattle.kernel_model.specs.declared.SysCall.{SysCall}
use Rattle.kernel_model.specs.declared.SysCall.TheVariants.{Read, StreamRead, StreamWrite}
use Rattle.kernel_model.specs.World.{World, ImageTable, Blocks}
use Rattle.kernel_model.specs.Objects.{Objects}
use Rattle.kernel_model.specs.Meaning.{Stage, stage, Answer, Piece, After, Continues, registers_of}
use Rattle.kernel_model.specs.Needs.{file_block}
use Rattle.kernel_model.specs.Fetch.{Fetched, Got, Failed, fetch}
use Rattle.kernel_model.specs.FilePieces.{with_cache, read_piece, read_first, read_first_at}
use Rattle.kernel_model.specs.StreamPoints.{stream_points, stream_taken, stream_fetches, stream_changed, through}
use Rattle.call_laws.specs.SameAccounts.{LeavesProcesses}
use Rattle.call_laws.specs.StreamPlainStages.{plain_table, at_stage, is_own, plain_stage}

-- ---- the first piece of a read

-- the bytes that a piece gave, if any
abbrev bytes_given : Option (List ℕ) → List ℕ
bytes_given None = []
bytes_given (Some bytes) = bytes

-- what a plain read goes on with is in its open file; a stream read goes on with the bytes
abbrev pub after_read : SysCall → Option (List ℕ) → After → After
after_read c gave (Continues u) =
    Continues
    (record { call = c; piece = 1; handlers = []; answers = 0; bytes = bytes_given gave })
after_read c gave after = after

-- the first piece of a stream read, from what the first piece of a plain read leaves
abbrev pub from_read : SysCall → Objects → Piece → Piece
from_read c s x =
    record {
      objects = with_cache x.objects.things.cache s;
      blocks = x.blocks;
      gave = None;
      after = after_read c x.gave x.after;
      calls = x.calls;
    }

-- once its block is fetched
taken_from : (c : SysCall) (s : Objects) (blocks : Blocks) (p fd i off len : ℕ) (o : OpenRow)
    (x : Fetched) →
    stream_taken c s blocks off len x ≡ from_read c s (read_first s blocks p fd i off len o x)
taken_from c s blocks p fd i off len o (Failed calls) = refl
taken_from c s blocks p fd i off len o (Got cache after frame calls) = refl

-- for the block that it names
fetches_from : (r : Result ℕ Refusal) (c : SysCall) (v : World) (s : Objects) (blocks : Blocks)
    (p fd i off len : ℕ) (o : OpenRow) (answer : Option Answer) (io : List Bool) →
    stream_fetches r c v s blocks p off len answer io
    ≡ from_read c s (read_first_at r v s blocks p fd i off len o (registers_of answer) io)
fetches_from (Err why) c v s blocks p fd i off len o answer io = refl
fetches_from (Ok b) c v s blocks p fd i off len o answer io =
    taken_from c s blocks p fd i off len o
    (fetch v (s.things.pol 1) p b (registers_of answer) s.things.cache blocks io)

-- of the file that it names
reads_from : (row : Option OpenRow) (c : SysCall) (v : World) (s : Objects) (blocks : Blocks)
    (p fd i off len : ℕ) (answer : Option Answer) (io : List Bool) →
    stream_fetches (file_block v row i off len) c v s blocks p off len answer io
    ≡ from_read c s (read_piece 0 v s blocks p fd i off len row (registers_of answer) io)
reads_from None c v s blocks p fd i off len answer io = refl
reads_from (Some o) c v s blocks p fd i off len answer io =
    fetches_from (file_block v (Some o) i off len) c v s blocks p fd i off len o answer io

-- the first piece of a read
pub first_read : (fd i off len : ℕ) (t : Stage) (v : World) (images : ImageTable) (s : Objects)
    (blocks : Blocks) (p : ℕ) (answer : Option Answer) (io : List Bool) →
    stream_points.piece v images s blocks p (at_stage (StreamRead fd i off len) 0 t) answer io
    ≡ from_read (StreamRead fd i off len) s
    (plain_table.piece v images s blocks p (stage (Read fd i off len) 0) answer io)
first_read fd i off len t v images s blocks p answer io =
    reads_from (s.things.file p fd) (StreamRead fd i off len) v s blocks p fd i off len answer io

-- ---- grafts, accounts and processes

-- the first piece of a write changes nothing
pub changed_nothing : (r : Result ℕ Refusal) (c : SysCall) (s : Objects) (blocks : Blocks)
    (out : List ℕ) → (stream_changed r c s blocks out).objects ≡ s
changed_nothing (Err why) c s blocks out = refl
changed_nothing (Ok b) c s blocks out = refl

-- the pieces that are this table's own leave grafts, accounts and processes
own_leaves : (c : SysCall) (n : ℕ) (t : Stage) (v : World) (images : ImageTable) (s : Objects)
    (blocks : Blocks) (p : ℕ) (answer : Option Answer) (io : List Bool) → is_own c n ≡ true →
    LeavesProcesses s (stream_points.piece v images s blocks p (at_stage c n t) answer io)
own_leaves (StreamRead fd i off len) zero t v images s blocks p answer io own =
    subst (λ (x : Piece). LeavesProcesses s x)
    (sym (first_read fd i off len t v images s blocks p answer io))
    (record { accounts = refl; queue = refl })
own_leaves (StreamRead fd i off len) (suc n) t v images s blocks p answer io own =
    record { accounts = refl; queue = refl }
own_leaves (StreamWrite fd i off given) zero t v images s blocks p answer io own =
    let r = file_block v (s.things.file p fd) i off (length given) in
    let out = through answer given in
    let same = changed_nothing r (StreamWrite fd i off given) s blocks out in
    record {
      accounts = ap (λ (x : Objects). x.accounts) same;
      queue = ap (λ (x : Objects). x.things.queue) same;
    }
own_leaves (StreamWrite fd i off given) (suc n) t v images s blocks p answer io own = cc
own_leaves c n t v images s blocks p answer io own = cc

-- every other piece is that of its plain stage
pub same_piece : (c : SysCall) (n : ℕ) (t : Stage) (v : World) (images : ImageTable) (s : Objects)
    (blocks : Blocks) (p : ℕ) (answer : Option Answer) (io : List Bool) → is_own c n ≡ false →
    stream_points.piece v images s blocks p (at_stage c n t) answer io
    ≡ plain_table.piece v images s blocks p (plain_stage c n t) answer io
same_piece (StreamRead fd i off len) n t v images s blocks p answer io other = cc
same_piece (StreamWrite fd i off given) zero t v images s blocks p answer io other = cc
same_piece (StreamWrite fd i off given) (suc n) t v images s blocks p answer io other = refl
same_piece c n t v images s blocks p answer io other = refl

-- what holds of a piece that leaves grafts, accounts and processes, and of the pieces of the plain
-- table, holds of each
pub by_owner : (P : Piece → Type 0) (c : SysCall) (n : ℕ) (t : Stage) (v : World)
    (images : ImageTable) (s : Objects) (blocks : Blocks) (p : ℕ) (answer : Option Answer)
    (io : List Bool) →
    ((x : Piece) → LeavesProcesses s x → P x) →
    (is_own c n ≡ false →
    P (plain_table.piece v images s blocks p (plain_stage c n t) answer io)) →
    P (stream_points.piece v images s blocks p (at_stage c n t) answer io)
by_owner P c n t v images s blocks p answer io leaves plain = elim (cases_Bool (is_own c n)) [
  | inl own ↦ leaves (stream_points.piece v images s blocks p (at_stage c n t) answer io)
      (own_leaves c n t v images s blocks p answer io own)
  | inr other ↦ subst P (sym (same_piece c n t v images s blocks p answer io other)) (plain other)
]
