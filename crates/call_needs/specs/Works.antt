-- A call in flight: where it stands, and when its next piece may come.
use Rattle.std.specs.Prelude.{◌≡◌, ℕ, ◌≤◌, true, List, [], Option, Some, None, option_map, Result, Ok, Err}
use Rattle.std.specs.Result.{is_ok}
use Rattle.std.proofs.Common.{refl}
use Rattle.kernel_model.specs.declared.SysCall.{SysCall}
use Rattle.kernel_model.specs.declared.Refusal.{Refusal}
use Rattle.arrayvec.specs.ArrayVec.{ArrayVec}
use Rattle.kernel_model.specs.declared.BareCall.{BareCall}
use Rattle.kernel_model.specs.Bare.{call_with}
use Rattle.kernel_model.specs.World.{World, ImageTable}
use Rattle.kernel_model.specs.Objects.{Objects}
use Rattle.kernel_model.specs.Meaning.{Meaning, Stage, Answer, stage, registers_of}
use Rattle.kernel_model.specs.Policies.{lives}
use Rattle.kernel_model.specs.Pieces.{plain_upto}
use Rattle.kernel_state.specs.Stores.{body_at}
use Rattle.call_needs.specs.declared.Work.{Work}

-- ---- where a call stands

-- the call with its bytes
abbrev pub call_of : Work → SysCall
call_of w = call_with w.call w.bytes.items

-- where a call stands, with what it carries
abbrev pub stage_of : Work → Stage
stage_of w =
    record {
      call = call_of w;
      piece = w.piece;
      handlers = w.handlers.items;
      answers = w.answers;
      bytes = w.carried.items;
    }

-- a call of process p before its first piece, which carries nothing
abbrev pub begun : (p : ℕ) → BareCall → ArrayVec ℕ → Work
begun p call bytes =
    record {
      caller = p;
      call = call;
      bytes = bytes;
      piece = 0;
      handlers = record { items = [] };
      answers = 0;
      carried = record { items = [] };
    }

-- the same call where it stands, with nothing that it carries
abbrev pub carrying_nothing : Work → Work
carrying_nothing w =
    record w { handlers = record { items = [] }; answers = 0; carried = record { items = [] } }

-- where a call stands, but for what it carries
abbrev pub bare_stage_of : Work → Stage
bare_stage_of w = stage (call_of w) w.piece

-- where a call stands that was just granted, or its refusal
abbrev pub stage_granted : {A : Type 0} → Stage → Result A Refusal → Result Stage Refusal
stage_granted t (Ok _) = Ok t
stage_granted t (Err refusal) = Err refusal

-- ---- answers

-- The answer that a piece of a call of process p gets which has these registers: what it gives
-- stands in memory, in the segment of the call's outermost level.
abbrev pub answer_seen : (ram : List ℕ) → (p : ℕ) → Option (List ℕ) → Option Answer
answer_seen ram p registers =
    option_map (λ (r : List ℕ). record { registers = r; body = body_at ram p r }) registers

-- its registers are these
pub registers_seen : (ram : List ℕ) (p : ℕ) (registers : Option (List ℕ)) →
    registers_of (answer_seen ram p registers) ≡ registers
registers_seen ram p None = refl
registers_seen ram p (Some r) = refl

-- ---- pieces

-- The next piece of a call may come: its caller lives, no early refusal of it holds with some
-- images loaded, and it stands before one of its pieces.
pub record IsDue (m : Meaning) (v : World) (s : Objects) (p : ℕ) (t : Stage) : Type 0 where
  pub images : ImageTable
  pub alive : lives s.things.queue p ≡ true
  pub granted : is_ok (m.early v images p t.call) ≡ true
  pub fits : m.fits v s p t ≡ true
  pub left : 1 ≤ m.left v s p t

-- The next piece of a call may come by the plain table whose points go up to some number: no piece
-- looks at which.
pub record IsPlainDue (v : World) (s : Objects) (p : ℕ) (t : Stage) : Type 0 where
  pub top : ℕ
  pub few : top ≤ 15
  pub due : IsDue (plain_upto top) v s p t
