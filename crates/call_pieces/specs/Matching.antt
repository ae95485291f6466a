-- What came of a piece, in the code's terms, beside what the definitions say.
use Rattle.std.specs.Prelude.{◌≡◌, ℕ, ◌<◌, Bool, true, false, List, ◌++◌, length, Option, nat_le}
use Rattle.kernel_model.specs.declared.Refusal.TheVariants.{DiskFault}
use Rattle.kernel_model.specs.declared.OpenRow.{OpenRow}
use Rattle.kernel_model.specs.declared.BareCall.{BareCall}
use Rattle.kernel_model.specs.World.{World, Blocks}
use Rattle.kernel_model.specs.Objects.{Objects}
use Rattle.kernel_model.specs.Meaning.{Meaning, Stage, Piece, After, Continues, EndsWith, Fails}
use Rattle.kernel_model.specs.Policies.{lives}
use Rattle.kernel_model.specs.Pieces.{piece_fits, pieces_left, read_fits, read_left}
use Rattle.kernel_model.specs.Sound.{HasWholeBlocks}
use Rattle.kernel_state.specs.Calls.{Knows}
use Rattle.call_needs.specs.declared.Work.{Work}
use Rattle.call_needs.specs.Works.{IsDue, call_of}
use Rattle.call_pieces.specs.declared.Next.{Next}

-- A piece left these objects, the disk tells this, these bytes were given, this comes next, and so
-- many calls of the disk were made: all as the definitions' piece has it.
pub record PieceMatches (q : Piece) (s : Objects) (known : Option (List (List ℕ)))
    (gave : Option (List ℕ)) (after : After) (calls : ℕ) : Type 0 where
  pub objects : s ≡ q.objects
  pub blocks : Knows known q.blocks
  pub bytes : gave ≡ q.gave
  pub next : after ≡ q.after
  pub calls_made : calls ≡ q.calls

-- The same without what the disk tells: a piece left these objects, these bytes were given, this
-- comes next, and so many calls of the disk were made, all as the definitions' piece has it.
pub record PieceLeaves (q : Piece) (s : Objects) (gave : Option (List ℕ)) (after : After)
    (calls : ℕ) : Type 0 where
  pub objects : s ≡ q.objects
  pub bytes : gave ≡ q.gave
  pub next : after ≡ q.after
  pub calls_made : calls ≡ q.calls

-- So it is for some whole blocks, whether the disk tells its blocks or not, where these calls of it
-- were made, whatever the calls after them do.
pub record PieceMatchesSome (v : World) (piece : Blocks → List Bool → Piece)
    (s : Objects) (gave : Option (List ℕ)) (after : After) (io : List Bool) : Type 0 where
  pub blocks : Blocks
  pub whole : HasWholeBlocks v blocks
  pub left : (rest : List Bool) → PieceLeaves (piece blocks (io ++ rest)) s gave after (length io)

-- a call was refused for the disk
abbrev pub is_fault : Next → Bool
is_fault (Next.Fails DiskFault) = true
is_fault _ = false

-- a call reads a file
abbrev pub is_read : BareCall → Bool
is_read (BareCall.Read _ _ _ _) = true
is_read _ = false

-- a call has one of the pieces that come most often
abbrev pub is_frequent : BareCall → Bool
is_frequent BareCall.Yield = true
is_frequent (BareCall.TakeLock _) = true
is_frequent (BareCall.FreeLock _) = true
is_frequent (BareCall.Poke _ _) = true
is_frequent (BareCall.Peek _) = true
is_frequent c = is_read c

-- what comes after a piece, where the call stands so now
abbrev pub comes_after : Next → Stage → After
comes_after Next.Goes t = Continues t
comes_after (Next.Ends reply) t = EndsWith reply
comes_after (Next.Fails refusal) t = Fails refusal

-- a call goes on
abbrev pub goes_on : Next → Bool
goes_on Next.Goes = true
goes_on _ = false

-- a call that goes on: it is the same call, its next piece may come, and fewer pieces are left
pub record HasContinued (old new : Work) (s t : Objects) : Type 0 where
  pub caller : new.caller ≡ old.caller
  pub call : call_of new ≡ call_of old
  pub alive : lives t.things.queue new.caller ≡ true
  pub fits : piece_fits (call_of new) new.piece t.things new.caller ≡ true
  pub fewer : pieces_left (call_of new) new.piece t.things new.caller
      < pieces_left (call_of old) old.piece s.things old.caller

-- the same in the terms of a table of calls
pub record ContinuesFrom (m : Meaning) (v : World) (s u : Objects) (p q : ℕ)
    (t r : Stage) : Type 0 where
  pub caller : q ≡ p
  pub call : r.call ≡ t.call
  pub ready : IsDue m v u q r
  pub fewer : m.left v u q r < m.left v s p t

-- a read that goes on from before one piece to before another, where its open file was the first
-- and is the second
pub record ReadContinues (old new : ℕ) (before after : Option OpenRow) : Type 0 where
  pub few : nat_le new 2 ≡ true
  pub fits : read_fits new after ≡ true
  pub fewer : read_left new after < read_left old before
