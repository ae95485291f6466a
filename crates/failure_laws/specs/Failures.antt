-- Of a list that says of calls of the disk whether they fail, nothing matters but which do. A call
-- of which a list says nothing doesn't fail; so a list without a failure is as good as none.
use Rattle.std.specs.Prelude.{◌≡◌, ℕ, zero, suc, Bool, false, List, [], Option}
use Rattle.script_model.specs.declared.Event.{Event}
use Rattle.script_model.specs.declared.Keys.{Keys}
use Rattle.script_model.specs.World.{World, ImageTable, Blocks}
use Rattle.script_model.specs.Objects.{Objects}
use Rattle.script_model.specs.Directory.{Disk}
use Rattle.script_model.specs.Meaning.{Meaning, Stage, Answer, disk_fails}
use Rattle.script_model.specs.Kernel.{Kernel, Run}
use Rattle.script_model.specs.Events.{event}
use Rattle.script_model.specs.Session.{Build, Session, Written, whole, after_line, first_io}
use Rattle.script_model.specs.Session.{later_io}
use Rattle.script_model.specs.Outcome.{Ending, outcome}

-- ---- lists

-- two lists say the same of each call
abbrev pub FailAlike : (io jo : List Bool) → Type 0
FailAlike io jo = (n : ℕ) → disk_fails io n ≡ disk_fails jo n

-- no call fails
abbrev pub NoneFails : List Bool → Type 0
NoneFails io = (n : ℕ) → disk_fails io n ≡ false

-- the list of the line of this number, from 0
abbrev pub list_of : List (List Bool) → ℕ → List Bool
list_of ios zero = first_io ios
list_of ios (suc n) = list_of (later_io ios) n

-- two lists for each line say the same of each of its calls
abbrev pub AllFailAlike : (ios jos : List (List Bool)) → Type 0
AllFailAlike ios jos = (n : ℕ) → FailAlike (list_of ios n) (list_of jos n)

-- no call of any line fails
abbrev pub NothingFails : List (List Bool) → Type 0
NothingFails ios = (n : ℕ) → NoneFails (list_of ios n)

-- ---- what comes to the same

-- two runs are the same, but for the lists of what the next calls will do, which say the same
pub record RunsAlike (r u : Run) : Type 0 where
  pub kernel : u.kernel ≡ r.kernel
  pub blocks : u.blocks ≡ r.blocks
  pub notes : u.notes ≡ r.notes
  pub io : FailAlike r.io u.io

-- two lines make the same of a session, and write the same
pub record WritesAlike (w x : Written) : Type 0 where
  pub session : x.session ≡ w.session
  pub bytes : x.bytes ≡ w.bytes
  pub notes : x.notes ≡ w.notes

-- ---- the laws

-- A piece of a call of this table looks at which calls of the disk fail, and at nothing else of
-- their list.
abbrev pub SeesFailures : Meaning → Type 0
SeesFailures m =
    (v : World) (images : ImageTable) (s : Objects) (blocks : Blocks) (p : ℕ) (t : Stage)
    (answer : Option Answer) (io jo : List Bool) → FailAlike io jo →
    m.piece v images s blocks p t answer io ≡ m.piece v images s blocks p t answer jo

-- With such a table an event leaves the same, and of later calls the lists still say the same.
abbrev pub EventsSeeFailures : Type 0
EventsSeeFailures =
    (m : Meaning) (k : Kernel) (blocks : Blocks) (number : ℕ) (e : Event) (io jo : List Bool) →
    SeesFailures m → FailAlike io jo →
    RunsAlike (event m k blocks number e io) (event m k blocks number e jo)

-- So does a line of a session, whatever it says.
abbrev pub LinesSeeFailures : Type 0
LinesSeeFailures =
    (b : Build) (keys : Keys) (size : ℕ) (s : Session) (text : List ℕ) (io jo : List Bool) →
    SeesFailures b.meaning → FailAlike io jo →
    WritesAlike (after_line b keys size s text io) (after_line b keys size s text jo)

-- And a whole run has the same status, pieces and blocks.
abbrev pub OutcomesSeeFailures : Type 0
OutcomesSeeFailures =
    (b : Build) (keys : Keys) (taken : List ℕ) (e : Ending) (d : Disk)
    (ios jos : List (List Bool)) → SeesFailures b.meaning → AllFailAlike ios jos →
    outcome b keys taken e d ios ≡ outcome b keys taken e d jos

-- So a run of the program of which no call of the disk fails has the outcome of the run that is
-- told of no call, over any disk.
abbrev pub NoFailuresAreNoList : Type 0
NoFailuresAreNoList =
    (keys : Keys) (taken : List ℕ) (e : Ending) (d : Disk) (ios : List (List Bool)) →
    NothingFails ios → outcome whole keys taken e d ios ≡ outcome whole keys taken e d []
