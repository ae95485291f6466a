-- Every system call is answered: once, and by what it is now. So is every `step`.
use Rattle.std.specs.Prelude.{◌≡◌, ◌≢◌, ℕ, suc, ◌≤◌, Bool, true, false, not, List, [], ◌∷◌, ◌++◌}
use Rattle.std.specs.Prelude.{length, filter, Some, None}
use Rattle.script_model.specs.declared.Event.TheVariants.{Step, Sys}
use Rattle.script_model.specs.declared.Keys.{Keys}
use Rattle.script_model.specs.declared.Note.{Note}
use Rattle.script_model.specs.declared.Note.TheVariants.{Ran, Waits, InGraft}
use Rattle.script_model.specs.declared.SysCall.{SysCall}
use Rattle.script_model.specs.World.{Blocks}
use Rattle.script_model.specs.Directory.{Disk}
use Rattle.script_model.specs.Policies.{lives}
use Rattle.script_model.specs.Meaning.{Meaning}
use Rattle.script_model.specs.Levels.{Level}
use Rattle.script_model.specs.Kernel.{Call, Blocker, Kernel, Run}
use Rattle.script_model.specs.Blocking.{number_of_call, same_call, levels_of, blocker}
use Rattle.script_model.specs.Events.{MOST_STEPS, in_order, event}
use Rattle.script_model.specs.Session.{Build}
use Rattle.script_model.specs.Sound.{IsSoundKernel, IsAtRest, HasWholeBlocks}
use Rattle.graft_laws.specs.Notes.{is_end}
use Rattle.session_laws.specs.NoteNumbers.{number_of, numbered, is_answer}
use Rattle.session_laws.specs.Sessions.{run_of, IsRunnable}

-- process p has the call of this number in flight
abbrev pub has_call : Kernel → (p n : ℕ) → Bool
has_call k p n = same_call (number_of_call (k.call p)) (Some n)

-- A note says where the call of p is: in the order, blocked by this object, which that process
-- holds; or in a graft and not in the order, with its innermost level and how deep that is.
abbrev pub SaysWhere : Meaning → Kernel → (p : ℕ) → Note → Type 0
SaysWhere m k p (Waits n object holder) = (in_order p k.order ≡ true)
    × (b : Blocker) × (blocker m k p ≡ Some b) × (b.object ≡ object) × (b.holder ≡ holder)
SaysWhere m k p (InGraft n q pt depth) = (in_order p k.order ≡ false)
    × (l : Level) × (outer : List Level) × (levels_of m k p ≡ l ∷ outer) × (l.owner ≡ q)
    × (l.point ≡ pt) × (suc (length outer) ≡ depth)
SaysWhere m k p x = ⊥

-- event n, a system call of p, is answered in the run that it has left
pub record IsAnswered (m : Meaning) (p n : ℕ) (r : Run) : Type 0 where
  -- one of the notes with its number is an answer, and that is the last of them
  pub before : List Note
  pub answer : Note
  pub last : numbered n r.notes ≡ before ++ answer ∷ []
  pub once : filter is_answer (numbered n r.notes) ≡ answer ∷ []
  -- the call ended or was refused exactly where p doesn't have it in flight; nobody else has it
  pub over : is_end answer ≡ not (has_call r.kernel p n)
  pub of_no_other : (q : ℕ) → q ≢ p → has_call r.kernel q n ≡ false
  -- so a call that isn't refused and isn't over waits or is in a graft: the very last note says it
  pub stands : is_end answer ≡ false → SaysWhere m r.kernel p answer
      × (earlier : List Note) × (r.notes ≡ earlier ++ answer ∷ [])

-- Event n, a `step` of p, is answered in the run that it has left: one note says how many
-- instructions were taken, and behind it one says where the call of p is, if it is in flight.
pub record IsTold (m : Meaning) (p n : ℕ) (r : Run) : Type 0 where
  pub before : List Note
  pub count : ℕ
  pub behind : List Note
  pub notes : r.notes ≡ before ++ Ran n count ∷ behind
  pub once : numbered n r.notes ≡ Ran n count ∷ []
  pub over : r.kernel.call p ≡ None → behind ≡ []
  pub stands : (c : Call) → r.kernel.call p ≡ Some c →
      (x : Note) × (behind ≡ x ∷ []) × (number_of x ≡ c.number) × SaysWhere m r.kernel p x

-- Each call that a kernel has in flight waits or is in a graft, and event n is answered, whichever
-- system call or `step` it is, and whichever calls of the disk fail.
pub record AnswersNext (m : Meaning) (k : Kernel) (blocks : Blocks) (n : ℕ) : Type 0 where
  pub in_flight : (p : ℕ) (c : Call) → k.call p ≡ Some c →
      (x : Note) × (number_of x ≡ c.number) × SaysWhere m k p x
  pub calls : (p : ℕ) (call : SysCall) (io : List Bool) →
      IsAnswered m p n (event m k blocks n (Sys p call) io)
  pub steps : (p count : ℕ) (io : List Bool) → lives k.objects.things.queue p ≡ true → 1 ≤ count →
      count ≤ MOST_STEPS → IsTold m p n (event m k blocks n (Step p count) io)

-- so it is in each sound kernel that rests, over whole blocks, where no call in flight has number n
abbrev pub EventsAreAnswered : Meaning → Type 0
EventsAreAnswered m =
    (k : Kernel) (blocks : Blocks) (n : ℕ) → IsSoundKernel m k → IsAtRest m k →
    HasWholeBlocks k.world blocks → ((p : ℕ) → has_call k p n ≡ false) → AnswersNext m k blocks n

-- and so it is in each kernel of a run over a disk of whole blocks, for the next event's number
abbrev pub RunsAnswer : Type 0
RunsAnswer =
    (b : Build) (keys : Keys) (d : Disk) (texts : List (List ℕ)) (ios : List (List Bool))
    (k : Kernel) →
    IsRunnable b d → (run_of b keys d texts ios).kernel ≡ Some k →
    AnswersNext b.meaning k (run_of b keys d texts ios).blocks (suc (run_of b keys d texts ios).events)
