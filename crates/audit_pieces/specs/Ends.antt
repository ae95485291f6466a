-- What pieces leave, as the definitions say it.
use Rattle.std.specs.Prelude.{◌≡◌, ℕ, true, false, List, Option, None, Some}
use Rattle.std.specs.Global.{Vec}
use Rattle.kernel_model.specs.Objects.{Objects, FrameValue, at}
use Rattle.kernel_model.specs.World.{Blocks}
use Rattle.kernel_model.specs.Meaning as model
use Rattle.kernel_model.specs.Fetch.{Fetched, Got, Failed}
use Rattle.kernel_model.specs.FilePieces.{with_cache}
use Rattle.audit_needs.specs.declared.Stage.{Stage}
use Rattle.audit_needs.specs.Stages.{stage_of}
use Rattle.audit_pieces.specs.declared.Store.{Store}
use Rattle.audit_pieces.specs.declared.Answer.{Answer}
use Rattle.audit_pieces.specs.declared.After.{After}
use Rattle.audit_pieces.specs.declared.After.TheVariants.{Continues, EndsWith, Fails}
use Rattle.audit_pieces.specs.declared.PieceEnd.{PieceEnd}
use Rattle.audit_pieces.specs.Stores.{objects_of, blocks_of}

-- an answer, if there is one
abbrev pub answer_of : Option Answer → Option model.Answer
answer_of None = None
answer_of (Some a) = Some (record { registers = a.registers; body = a.body.items })

-- what comes after a piece, where this is the stage then
abbrev pub after_of : After → Stage → model.After
after_of Continues t = model.Continues (stage_of t)
after_of (EndsWith reply) t = model.EndsWith reply
after_of (Fails refusal) t = model.Fails refusal

-- bytes, if there are any
abbrev pub given : Option (Vec ℕ) → Option (List ℕ)
given None = None
given (Some bytes) = Some bytes.items

-- the bytes that a piece gives, if it does
abbrev pub gave_of : PieceEnd → Option (List ℕ)
gave_of e = given e.gave

-- what a piece leaves, but for how many calls of the disk it made
pub record Left : Type 0 where
  pub objects : Objects
  pub blocks : Blocks
  pub gave : Option (List ℕ)
  pub after : model.After

-- what a piece of the definitions leaves
abbrev pub left_by : model.Piece → Left
left_by m = record { objects = m.objects; blocks = m.blocks; gave = m.gave; after = m.after }

-- what a piece left that ended so, where this is the stage then
abbrev pub left_of : Store → Stage → PieceEnd → Left
left_of s t e =
    record {
      objects = objects_of s;
      blocks = blocks_of s;
      gave = gave_of e;
      after = after_of e.after t;
    }

-- what a frame held is written where it is dirty
abbrev pub written_back : Option FrameValue → Blocks → Blocks
written_back None blocks = blocks
written_back (Some old) blocks =
    elim old.dirty [ false ↦ blocks | true ↦ at old.block old.bytes blocks ]

-- how many calls of the disk a fetch made
abbrev pub calls_in : Fetched → ℕ
calls_in (Got c blocks f calls) = calls
calls_in (Failed calls) = calls

-- A fetch got frame f: the cache and the disk's blocks are those that it leaves, and all else
-- stays.
pub record Fetches (made : Fetched) (old new : Store) (f : ℕ) : Type 0 where
  pub got : made ≡ Got (objects_of new).things.cache (blocks_of new) f (calls_in made)
  pub kept : objects_of new ≡ with_cache (objects_of new).things.cache (objects_of old)

-- What a piece of the definitions leaves is what is left.
pub record IsPiece (made : model.Piece) (s : Store) (t : Stage) (e : PieceEnd) : Type 0 where
  pub objects : objects_of s ≡ made.objects
  pub blocks : blocks_of s ≡ made.blocks
  pub gave : gave_of e ≡ made.gave
  pub after : after_of e.after t ≡ made.after
