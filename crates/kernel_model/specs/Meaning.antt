-- A table of system calls is seven functions to the kernel. The kernel is defined over any table,
-- so later calls are a new table and not a new kernel.
use Rattle.std.specs.Prelude.{◌≡◌, ℕ, min, Bool, false, List, [], length, Option, None, Some}
use Rattle.std.specs.Prelude.{option_map, Result, slice_index, slice_index_or, ⊤}
use Rattle.kernel_data.specs.declared.Need.{Need}
use Rattle.kernel_data.specs.declared.Point.{Point}
use Rattle.kernel_data.specs.declared.SysCall.{SysCall}
use Rattle.kernel_data.specs.declared.Refusal.{Refusal}
use Rattle.kernel_data.specs.declared.Reply.{Reply}
use Rattle.kernel_data.specs.Objects.{Objects}
use Rattle.kernel_data.specs.World.{World, ImageTable, Blocks}

-- where a call is, and what it carries from piece to piece: only calls of event points and streams
-- carry something
pub record Stage : Type 0 where
  pub call : SysCall
  -- the number of its next piece, from 0
  pub piece : ℕ
  -- the handlers whose pieces are left, each a process and a point
  pub handlers : List (ℕ × ℕ)
  -- how many of the handlers before them completed
  pub answers : ℕ
  -- the bytes that were read, or will be written
  pub bytes : List ℕ

-- the stage of a call before the piece of this number, which carries nothing
abbrev pub stage : SysCall → ℕ → Stage
stage c n = record { call = c; piece = n; handlers = []; answers = 0; bytes = [] }

-- the answer of a graft call that completed: its first registers, and the bytes that it gives
pub record Answer : Type 0 where
  pub registers : List ℕ
  pub body : List ℕ

-- an answer with these registers that gives no bytes
abbrev pub bare_answer : List ℕ → Answer
bare_answer registers = record { registers = registers; body = [] }

-- an answer gives as many bytes as its r0 says, and at most 512
abbrev pub HasWholeBody : Option Answer → Type 0
HasWholeBody None = ⊤
HasWholeBody (Some a) = length a.body ≡ min (slice_index a.registers 0) 512

-- the registers of an answer, if there is one
abbrev pub registers_of : Option Answer → Option (List ℕ)
registers_of answer = option_map (λ (a : Answer). a.registers) answer

-- what comes after a piece: the next one, the call's end, or a refusal
pub data After : Type 0 where
  Continues : Stage → After
  EndsWith : Reply → After
  Fails : Refusal → After

-- what a piece leaves: the objects, the disk's blocks, the bytes that it gives, what comes next,
-- and how many disk calls it made
pub record Piece : Type 0 where
  pub objects : Objects
  pub blocks : Blocks
  pub gave : Option (List ℕ)
  pub after : After
  pub calls : ℕ

-- the disk call of this number fails; the list says for each disk call, in order, whether it fails
abbrev pub disk_fails : List Bool → ℕ → Bool
disk_fails io n = slice_index_or io n false

-- A table of calls says how a call begins or is refused at once, what its next piece needs, which
-- point this piece asks, what it does in one step, at which stages a call may be, and how many
-- pieces it may still take.
pub record Meaning : Type 0 where
  -- the stage at which a call of a process begins; or, of its refusals that need no object, the one
  -- with the least number
  pub early : World → ImageTable → ℕ → SysCall → Result Stage Refusal
  -- the objects that the next piece needs, in order
  pub need : World → Objects → ℕ → Stage → List Need
  -- the point that the next piece asks
  pub asks : World → Objects → ℕ → Stage → Option Point
  -- the bytes that are fed to the graft that the next piece asks
  pub feed : Stage → List ℕ
  -- the next piece in one step, with an answer or by default, and with what the next disk calls
  -- will do
  pub piece : World → ImageTable → Objects → Blocks → ℕ → Stage → Option Answer → List Bool → Piece
  -- a call may be at this stage
  pub fits : World → Objects → ℕ → Stage → Bool
  -- how many pieces a call may still take
  pub left : World → Objects → ℕ → Stage → ℕ
