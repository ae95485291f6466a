-- When the run of a test behind the grafts of a submission wrote what the task wants.
use Rattle.std.specs.Prelude.{◌≡◌, ◌⊎◌, ℕ, ◌+◌, ◌-◌, ◌==◌, Bool, true, false, cond, List, [], ◌∷◌, ◌++◌}
use Rattle.std.specs.Prelude.{◌^◌, min, length, map, flat_map, codes, None, Some, ⊤}
use Rattle.std.specs.List.{list_all, slice_split}
use Rattle.script_model.specs.World.{Image}
use Rattle.vino_base.specs.Disks.{DiskSeen}
use Rattle.lab_reader.specs.declared.sheet.Want.{Want}
use Rattle.lab_reader.specs.Lab.{Lab}
use Rattle.lab_lowering.specs.Lowering.{Lowers, HasCause}
use Rattle.lab_lines.specs.declared.pieces.Piece.{Piece}
use Rattle.lab_lines.specs.Told.{lines_in, lines_of}
use Rattle.lab_watch.specs.declared.running.Ran.{Ran}
use Rattle.lab_watch.specs.Running.{RunsScript}
use Rattle.lab_matching.specs.Matching.{is_passed}
use Rattle.lab_task.specs.Task.{Test}
use Rattle.lab_task.specs.declared.faults.SubmissionFault.{SubmissionFault}
use Rattle.lab_task.specs.Submission.{fault_of}
use Rattle.lab_task.specs.SubmissionFaults.{RefusesWith}
use Rattle.lab_grading.specs.declared.checking.Checked.{Checked}
use Rattle.lab_grading.specs.declared.checking.Ready.{Ready}
use Rattle.lab_grading.specs.declared.grading.Outcome.{Outcome}
use Rattle.lab_grading.specs.declared.grading.Outcome.TheVariants as outcome
use Rattle.lab_grading.specs.declared.submission.Graded.{Graded}
use Rattle.lab_grading.specs.declared.submission.Graded.TheVariants as graded

-- the script of a test behind a text of grafts
abbrev pub behind : (front script : List ℕ) → List ℕ
behind front script = front ++ 10 ∷ script

-- how many lines a text has that stands in front
abbrev pub lines_before : List ℕ → ℕ
lines_before front = length (slice_split (λ b. b == 10) front)

-- the graft of the one instruction `ret`, of this name
abbrev pub stub : (name : List ℕ) → List ℕ
stub name = codes "graft " ++ name ++ (10 ∷ codes "ret" ++ 10 ∷ codes "end" ++ 10 ∷ [])

-- such a graft for each that a submission gives
abbrev pub stubs : (gives : List (List ℕ)) → List ℕ
stubs gives = flat_map stub gives

-- a run of this script under the keys of this word, over some disk
pub record WasRun (word script : List ℕ) (ran : Ran) : Type 0 where
  pub before : DiskSeen
  pub after : DiskSeen
  pub runs : RunsScript word script ran.source ran.lines before after ran.status

-- this script of a test was read: behind these grafts it is this lab file
pub record IsRead (front script : List ℕ) (lab : Lab) : Type 0 where
  pub images : List Image
  pub plain : List ℕ
  pub lowers : Lowers (behind front script) lab images plain

-- a test was read behind these grafts
pub record IsChecked (front : List ℕ) (test : Test) (checked : Checked) : Type 0 where
  pub script : checked.script.items ≡ test.script
  pub read : IsRead front test.script checked.lowered.lab

-- each test was
abbrev pub AreChecked : (front : List ℕ) → List Test → List Checked → Type 0
AreChecked front [] [] = ⊤
AreChecked front [] (c ∷ cs) = ⊥
AreChecked front (t ∷ ts) [] = ⊥
AreChecked front (t ∷ ts) (c ∷ cs) = IsChecked front t c × AreChecked front ts cs

-- each test of a task was read behind grafts that stand for those of a submission
pub record IsReady (ready : Ready) : Type 0 where
  pub read : AreChecked (stubs ready.task.gives) ready.task.tests ready.checked.items
  pub to : ready.to ≡ lines_before (stubs ready.task.gives)

-- a piece of a run whose lines are so many, as one of a run in which they are others
abbrev pub moved : (from to : ℕ) → Piece → Piece
moved from to p =
    record p { owner = cond (p.owner == 0) 0 (min (p.owner + to) (2 ^ 64 - 1) - from) }

-- The script of a test ran behind this text of grafts, to its end or to a refused line, and what it
-- wrote is, or isn't, what these lines want, whose numbers are those behind so many lines.
pub record Judged (front script : List ℕ) (wants : List Want) (last to : ℕ)
    (passed : Bool) : Type 0 where
  pub lab : Lab
  pub images : List Image
  pub plain : List ℕ
  pub lowers : Lowers (behind front script) lab images plain
  pub ran : Ran
  pub run : WasRun lab.settings.word plain ran
  pub ended : (ran.status ≡ 0) ⊎ (ran.status ≡ 2)
  pub pieces : List Piece
  pub whole : lines_in pieces ≡ lines_of ran.lines.got
  pub judged : is_passed wants last (map (moved (lines_before front) to) pieces) ≡ passed

-- ---- what came of a test and of a submission

-- what an outcome says of the pieces of a run
abbrev pub SaysOfPieces : Outcome → List Want → (last : ℕ) → List Piece → Type 0
SaysOfPieces outcome.Passed wants last pieces = is_passed wants last pieces ≡ true
SaysOfPieces (outcome.Failed other) wants last pieces = is_passed wants last pieces ≡ false
SaysOfPieces (outcome.Refused fault) wants last pieces = ⊥

-- what an outcome says of a test behind this text of grafts: its run wrote what is wanted, or
-- didn't, or the text in which it stands behind them is refused
abbrev pub Says : Outcome → (front : List ℕ) → (to : ℕ) → Checked → Type 0
Says outcome.Passed front to checked =
    Judged front checked.script.items checked.lowered.lab.sheet.wants
    checked.lowered.lab.sheet.last to true
Says (outcome.Failed other) front to checked =
    Judged front checked.script.items checked.lowered.lab.sheet.wants
    checked.lowered.lab.sheet.last to false
Says (outcome.Refused fault) front to checked = HasCause fault (behind front checked.script.items)

-- an outcome for each test
abbrev pub AreSaid : (front : List ℕ) → (to : ℕ) → List Checked → List Outcome → Type 0
AreSaid front to [] [] = ⊤
AreSaid front to [] (o ∷ os) = ⊥
AreSaid front to (c ∷ cs) [] = ⊥
AreSaid front to (c ∷ cs) (o ∷ os) = Says o front to c × AreSaid front to cs os

-- the same of what came of tests, none of which is refused
abbrev pub SaysOfTests : Graded → (front : List ℕ) → (to : ℕ) → List Checked → Type 0
SaysOfTests (graded.Tested outcomes) front to cs = AreSaid front to cs outcomes.items
SaysOfTests (graded.Refused fault) front to cs = ⊥
SaysOfTests (graded.Unread place fault) front to cs = ⊤

-- what came of a submission: an outcome for each test, where it has the grafts that the task asks
-- for, and no more; else what is wrong with it, or why the text in which a test stands behind its
-- grafts is refused
abbrev pub SaysOf : Graded → (text : List ℕ) → Ready → Type 0
SaysOf (graded.Tested outcomes) text ready =
    (fault_of ready.task.gives text ≡ None) × AreSaid text ready.to ready.checked.items outcomes.items
SaysOf (graded.Refused fault) text ready = fault_of ready.task.gives text ≡ Some fault
SaysOf (graded.Unread place fault) text ready = ⊤

-- what came of each submission in which this is wrong
abbrev pub SaysRefused : SubmissionFault → Graded → Type 0
SaysRefused fault g =
    (text : List ℕ) (ready : Ready) → RefusesWith fault (fault_of ready.task.gives text) →
    SaysOf g text ready

-- ---- a submission that passes

-- a test is passed
abbrev pub is_passed_by : Outcome → Bool
is_passed_by outcome.Passed = true
is_passed_by (outcome.Failed other) = false
is_passed_by (outcome.Refused fault) = false

-- each test is passed
abbrev pub are_passed : Graded → Bool
are_passed (graded.Tested outcomes) = list_all is_passed_by outcomes.items
are_passed (graded.Refused fault) = false
are_passed (graded.Unread place fault) = false

-- the run of each of these tests behind this text of grafts wrote what is wanted
abbrev pub AllPass : (front : List ℕ) → (to : ℕ) → List Checked → Type 0
AllPass front to [] = ⊤
AllPass front to (c ∷ cs) = Says outcome.Passed front to c × AllPass front to cs

-- a submission has the grafts that a task asks for, and no more, and each test passes behind them
pub record Passes (ready : Ready) (text : List ℕ) : Type 0 where
  pub asked : fault_of ready.task.gives text ≡ None
  pub passed : AllPass text ready.to ready.checked.items
