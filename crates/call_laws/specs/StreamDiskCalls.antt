-- The calls of stream points meet the laws of disk calls: which ones a piece makes, and when it
-- answers a disk fault.
use Rattle.std.specs.Prelude.{◌≡◌, ℕ, zero, suc, ◌≤◌, Bool, true, List, ◌++◌, length, take, Option, Result, Ok, Err}
use Rattle.std.specs.List.{list_any}
use Rattle.std.proofs.Common.{arith, refl, ap, sym, subst, ◌∙◌}
use Rattle.kernel_model.specs.declared.Refusal.{Refusal}
use Rattle.kernel_model.specs.declared.Refusal.TheVariants.{DiskFault}
use Rattle.kernel_model.specs.declared.SysCall.{SysCall}
use Rattle.kernel_model.specs.declared.SysCall.TheVariants.{Read, Write, StreamRead, StreamWrite}
use Rattle.kernel_model.specs.World.{World, ImageTable, Blocks}
use Rattle.kernel_model.specs.Objects.{Objects}
use Rattle.kernel_model.specs.Meaning.{Stage, stage, Answer, Piece, After, Fails, Continues, EndsWith, registers_of}
use Rattle.kernel_model.specs.Needs.{file_block}
use Rattle.kernel_model.specs.FilePieces.{write_piece}
use Rattle.kernel_model.specs.StreamPoints.{stream_points, stream_changed, through}
use Rattle.kernel_model.specs.Laws.{DiskLaws, IsReady}
use Rattle.call_laws.specs.StreamPlainStages.{plain_table, plain_laws, at_stage, plain_stage, plain_ready, read_ready}
use Rattle.call_laws.specs.StreamPieces.{from_read, after_read, first_read}

-- ---- which calls

-- a piece looks at none but those that it makes
same_with_more : (c : SysCall) (n : ℕ) (t : Stage) (v : World) (images : ImageTable) (s : Objects)
    (blocks : Blocks) (p : ℕ) (answer : Option Answer) (io rest : List Bool) →
    (stream_points.piece v images s blocks p (at_stage c n t) answer io).calls ≤ length io →
    stream_points.piece v images s blocks p (at_stage c n t) answer (io ++ rest)
    ≡ stream_points.piece v images s blocks p (at_stage c n t) answer io
same_with_more (StreamRead fd i off len) zero t v images s blocks p answer io rest few =
    let now = first_read fd i off len t v images s blocks p answer io in
    first_read fd i off len t v images s blocks p answer (io ++ rest)
    ∙ ap (from_read (StreamRead fd i off len) s)
    (plain_laws.disk_calls.own_calls v images s blocks p (stage (Read fd i off len) 0) answer io
    rest (subst (λ (x : Piece). x.calls ≤ length io) now few))
    ∙ sym now
same_with_more (StreamRead fd i off len) (suc n) t v images s blocks p answer io rest few = refl
same_with_more (StreamWrite fd i off given) zero t v images s blocks p answer io rest few = refl
same_with_more c n t v images s blocks p answer io rest few =
    plain_laws.disk_calls.own_calls v images s blocks p (plain_stage c n t) answer io rest few

-- the first piece of a write makes none
changed_calls : (r : Result ℕ Refusal) (c : SysCall) (s : Objects) (blocks : Blocks)
    (out : List ℕ) → (stream_changed r c s blocks out).calls ≡ 0
changed_calls (Err why) c s blocks out = refl
changed_calls (Ok b) c s blocks out = refl

-- a piece makes at most one for each frame
calls_few : (c : SysCall) (n : ℕ) (t : Stage) (v : World) (images : ImageTable) (s : Objects)
    (blocks : Blocks) (p : ℕ) (answer : Option Answer) (io : List Bool) →
    IsReady stream_points v images s p (at_stage c n t) answer →
    (stream_points.piece v images s blocks p (at_stage c n t) answer io).calls ≤ v.frames
calls_few (StreamRead fd i off len) zero t v images s blocks p answer io ready =
    subst (λ (x : Piece). x.calls ≤ v.frames)
    (sym (first_read fd i off len t v images s blocks p answer io))
    (plain_laws.disk_calls.few_calls v images s blocks p (stage (Read fd i off len) 0) answer io
    (read_ready fd i off len t v images s p answer ready))
calls_few (StreamRead fd i off len) (suc n) t v images s blocks p answer io ready = omega arith
calls_few (StreamWrite fd i off given) zero t v images s blocks p answer io ready =
    let none = changed_calls (file_block v (s.things.file p fd) i off (length given))
    (StreamWrite fd i off given) s blocks (through answer given) in omega (arith, none)
calls_few c n t v images s blocks p answer io ready =
    plain_laws.disk_calls.few_calls v images s blocks p (plain_stage c n t) answer io
    (plain_ready c n t v images s p answer refl ready)

-- ---- disk faults

-- a disk fault is answered where a call of the disk failed
abbrev FailsByDisk : List Bool → Piece → Type 0
FailsByDisk io x =
    x.after ≡ Fails DiskFault → list_any (λ failed. failed) (take x.calls io) ≡ true

-- a read that goes on or not answers a disk fault where the plain read does
after_faults : (c : SysCall) (gave : Option (List ℕ)) (after : After) →
    after_read c gave after ≡ Fails DiskFault → after ≡ Fails DiskFault
after_faults c gave (Continues u) e = cc
after_faults c gave (EndsWith reply) e = e
after_faults c gave (Fails why) e = e

-- the first piece of a write refuses as a plain write does, which answers no disk fault for it
changed_faults : (r : Result ℕ Refusal) (c : SysCall) (v : World) (s : Objects) (blocks : Blocks)
    (p off : ℕ) (given out : List ℕ) (answer : Option (List ℕ)) (io : List Bool) →
    FailsByDisk io (write_piece r v s blocks p off given answer io) →
    FailsByDisk io (stream_changed r c s blocks out)
changed_faults (Err why) c v s blocks p off given out answer io plain e = plain e
changed_faults (Ok b) c v s blocks p off given out answer io plain e = cc

-- a piece answers a disk fault only where one of its calls failed
faults : (c : SysCall) (n : ℕ) (t : Stage) (v : World) (images : ImageTable) (s : Objects)
    (blocks : Blocks) (p : ℕ) (answer : Option Answer) (io : List Bool) →
    FailsByDisk io (stream_points.piece v images s blocks p (at_stage c n t) answer io)
faults (StreamRead fd i off len) zero t v images s blocks p answer io =
    let plain = plain_table.piece v images s blocks p (stage (Read fd i off len) 0) answer io in
    subst (FailsByDisk io) (sym (first_read fd i off len t v images s blocks p answer io))
    (λ e. plain_laws.disk_calls.fault v images s blocks p (stage (Read fd i off len) 0) answer io
    (after_faults (StreamRead fd i off len) plain.gave plain.after e))
faults (StreamRead fd i off len) (suc n) t v images s blocks p answer io = λ e. cc
faults (StreamWrite fd i off given) zero t v images s blocks p answer io =
    changed_faults (file_block v (s.things.file p fd) i off (length given))
    (StreamWrite fd i off given) v s blocks p off given (through answer given)
    (registers_of answer) io
    (plain_laws.disk_calls.fault v images s blocks p (stage (Write fd i off given) 0) answer io)
faults c n t v images s blocks p answer io =
    plain_laws.disk_calls.fault v images s blocks p (plain_stage c n t) answer io

-- The laws of disk calls hold of the calls of stream points.
pub disk_calls_of_streams : DiskLaws stream_points
disk_calls_of_streams =
    record {
      own_calls = λ v images s blocks p t answer io rest few.
          same_with_more t.call t.piece t v images s blocks p answer io rest few;
      few_calls = λ v images s blocks p t answer io ready.
          calls_few t.call t.piece t v images s blocks p answer io ready;
      fault = λ v images s blocks p t answer io e.
          faults t.call t.piece t v images s blocks p answer io e;
    }
