-- What streams give and put in every run: what came out of their points.
use Rattle.std.specs.Prelude.{◌≡◌, ℕ, Bool, List, [], ◌∷◌, ◌++◌, length, Contains, Option, Some}
use Rattle.std.specs.Prelude.{None}
use Rattle.script_model.specs.declared.Keys.{Keys}
use Rattle.script_model.specs.declared.Note.{Note}
use Rattle.script_model.specs.declared.Note.TheVariants.{Gave, Ended}
use Rattle.script_model.specs.declared.Reply.{Reply}
use Rattle.script_model.specs.declared.SysCall.TheVariants.{StreamRead, StreamWrite}
use Rattle.script_model.specs.Directory.{Disk}
use Rattle.script_model.specs.Kernel.{Call, Kernel, Run}
use Rattle.script_model.specs.Meaning.{Meaning, Answer}
use Rattle.script_model.specs.Session.{whole}
use Rattle.script_model.specs.StreamPoints.{through}
use Rattle.session_laws.specs.Sent.{step_answers}
use Rattle.session_laws.specs.Sessions.{run_of, IsRunnable}
use Rattle.run_laws.specs.Moves.{Move, Steps, Acts, run_before, run_after, moves_of}
use Rattle.run_laws.specs.SeenRuns.{GoesOn}

-- the first answer of several, without its call's number
abbrev pub answer_in : List (ℕ × Answer) → Option Answer
answer_in [] = None
answer_in (x ∷ xs) = Some x.1

-- the answer of the graft call that a move completes, if it does
abbrev pub answer_given : Meaning → Move → Option Answer
answer_given m (Steps p r) = answer_in (step_answers m p r)
answer_given m (Acts e r) = None

-- What a move does to streams, which leads from one run to another. Its graft call, if it
-- completes one, gives this answer.
pub record MoveKeepsStreams (answer : Option Answer) (r u : Run) : Type 0 where
  -- a stream read takes into the call as many bytes as it asked for
  pub taken : (p fd i off len : ℕ) (c d : Call) → c.stage.call ≡ StreamRead fd i off len →
      GoesOn r u p c d → length d.stage.bytes ≡ len
  -- when it ends after its second piece, its last note before the end gives what came out of its
  -- point for the bytes that it took, as many as it asked for
  pub gives : (p fd i off len : ℕ) (c : Call) (reply : Reply) (notes : List Note) →
      r.kernel.call p ≡ Some c → c.stage.call ≡ StreamRead fd i off len → c.stage.piece ≡ 1 →
      u.kernel.call p ≡ None → u.notes ≡ notes ++ Ended c.number reply ∷ [] →
      (earlier : List Note)
      × (notes ≡ earlier ++ Gave c.number (through answer c.stage.bytes) ∷ [])
      × (length (through answer c.stage.bytes) ≡ len)
  -- a stream write takes into the call what came out of its point for the given bytes, as many
  pub made : (p fd i off : ℕ) (given : List ℕ) (c d : Call) →
      c.stage.call ≡ StreamWrite fd i off given → GoesOn r u p c d →
      (d.stage.bytes ≡ through answer given) × (length d.stage.bytes ≡ length given)

-- So it is of each move of a run.
abbrev pub RunsKeepStreams : Type 0
RunsKeepStreams =
    (keys : Keys) (d : Disk) (texts : List (List ℕ)) (ios : List (List Bool)) (k : Kernel)
    (x : Move) →
    IsRunnable whole d → (run_of whole keys d texts ios).kernel ≡ Some k →
    Contains (moves_of whole keys d texts ios) x →
    MoveKeepsStreams (answer_given whole.meaning x) (run_before x) (run_after whole.meaning x)
