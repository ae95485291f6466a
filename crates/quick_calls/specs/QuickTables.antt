-- Tables of quick calls: each call has one piece, which asks no point, makes no call of the disk, gives
-- no bytes and ends the call. Four functions say what such a table is. All else follows.
use Rattle.std.specs.Prelude.{◌≡◌, ℕ, Bool, ◌&&◌, ◌==◌, List, [], Option, None}
use Rattle.kernel_model.specs.declared.Need.{Need}
use Rattle.kernel_model.specs.declared.Refusal.{Refusal}
use Rattle.kernel_model.specs.declared.Reply.{Reply}
use Rattle.kernel_model.specs.declared.SysCall.{SysCall}
use Rattle.kernel_model.specs.World.{Blocks}
use Rattle.kernel_model.specs.Objects.{Objects}
use Rattle.kernel_model.specs.Meaning.{Meaning, Piece, EndsWith}
use Rattle.kernel_model.specs.Early.{begins_unless}
use Rattle.kernel_model.specs.FilePieces.{leaves, refuses}

-- what a quick call comes to: it leaves these objects and answers this, or it is refused and leaves
-- all as it was
pub data Outcome : Type 0 where
  Leaves : Objects → Reply → Outcome
  Refused : Refusal → Outcome

-- the objects after it
abbrev pub objects_after : Objects → Outcome → Objects
objects_after s (Leaves u reply) = u
objects_after s (Refused why) = s

-- it as the piece of a call
abbrev pub piece_of_outcome : Objects → Blocks → Outcome → Piece
piece_of_outcome s blocks (Leaves u reply) = leaves u blocks (EndsWith reply)
piece_of_outcome s blocks (Refused why) = refuses s blocks why

-- A table of quick calls.
pub record QuickTable : Type 0 where
  -- the calls that are its own
  pub owns : SysCall → Bool
  -- why a call of process p is refused at once, if it is: all that the call's numbers and the caller
  -- decide. A call that isn't the table's own is refused.
  pub refusal : ℕ → SysCall → Option Refusal
  -- the objects that a call of process p needs, in order
  pub need : SysCall → Objects → ℕ → List Need
  -- what a call of process p comes to
  pub does : SysCall → Objects → ℕ → Outcome

-- what such a table is to the kernel
abbrev pub quick_meaning : QuickTable → Meaning
quick_meaning x =
    record {
      early = λ v images p c. begins_unless c (x.refusal p c);
      need = λ v s p t. x.need t.call s p;
      asks = λ v s p t. None;
      feed = λ t. [];
      piece = λ v images s blocks p t answer io.
          piece_of_outcome s blocks (x.does t.call s p);
      fits = λ v s p t. x.owns t.call && t.piece == 0;
      left = λ v s p t. 1;
    }
