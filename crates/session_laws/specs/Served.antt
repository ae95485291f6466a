-- A `serve` sends what its handlers answer.
use Rattle.std.specs.Prelude.{◌≡◌, ◌≢◌, ◌⊎◌, ⊤, ℕ, suc, Bool, List, [], ◌∷◌, ◌++◌, length, Option, Some, Contains}
use Rattle.std.specs.List.{AllByRecursion}
use Rattle.script_model.specs.declared.Event.{Event}
use Rattle.script_model.specs.declared.Event.TheVariants.{Sys}
use Rattle.script_model.specs.declared.Keys.{Keys}
use Rattle.script_model.specs.declared.SysCall.TheVariants.{Serve}
use Rattle.script_model.specs.declared.Note.{Note}
use Rattle.script_model.specs.declared.Note.TheVariants.{Ended}
use Rattle.script_model.specs.declared.Reply.TheVariants.{One}
use Rattle.script_model.specs.World.{World, ImageTable, Blocks}
use Rattle.script_model.specs.Objects.{Objects}
use Rattle.script_model.specs.Meaning.{Meaning, Stage, Answer}
use Rattle.script_model.specs.Kernel.{Call, Kernel}
use Rattle.script_model.specs.EventPoints.{event_points}
use Rattle.script_model.specs.Directory.{Disk}
use Rattle.script_model.specs.Session.{Build, first_session, after_lines, whole}
use Rattle.session_laws.specs.Lines.{line_event, lines_show}
use Rattle.session_laws.specs.Sessions.{run_of}
use Rattle.session_laws.specs.Shown.{run_from, event_on_shows}
use Rattle.session_laws.specs.Sent.{those, sent, given, run_answers, run_completed, run_taken}
use Rattle.session_laws.specs.Sent.{step_answers, step_completed, step_taken}

-- ---- premises

-- a table's `serve` is that of the event points
pub record MeansServe (m : Meaning) : Type 0 where
  pub early : (v : World) (images : ImageTable) (p port : ℕ) (bytes : List ℕ) →
      m.early v images p (Serve port bytes) ≡ event_points.early v images p (Serve port bytes)
  pub asks : (v : World) (s : Objects) (p : ℕ) (t : Stage) (port : ℕ) (bytes : List ℕ) →
      t.call ≡ Serve port bytes → m.asks v s p t ≡ event_points.asks v s p t
  pub piece : (v : World) (images : ImageTable) (s : Objects) (blocks : Blocks) (p : ℕ)
      (t : Stage) (answer : Option Answer) (io : List Bool) (port : ℕ) (bytes : List ℕ) →
      t.call ≡ Serve port bytes →
      m.piece v images s blocks p t answer io ≡ event_points.piece v images s blocks p t answer io

-- no call of a kernel has this number
abbrev pub IsUnused : ℕ → Kernel → Type 0
IsUnused n k = (p : ℕ) (c : Call) → k.call p ≡ Some c → c.number ≢ n

-- none of these events has this number
abbrev pub AreOthers : ℕ → List (ℕ × Event) → Type 0
AreOthers n es = AllByRecursion (λ (e : ℕ × Event). e.0 ≢ n) es

-- ---- what is sent

-- values are some of these, each place of them used at most once, in their order
abbrev pub AreSomeOf : {A : Type 0} → (values these : List A) → Type 0
AreSomeOf xs [] = xs ≡ []
AreSomeOf [] (y ∷ ys) = ⊤
AreSomeOf (x ∷ xs) (y ∷ ys) = ((x ≡ y) × AreSomeOf xs ys) ⊎ AreSomeOf (x ∷ xs) ys

-- The notes of the call of this number tell its answers, where these are the answers of all graft
-- calls that completed, with the handlers that gave them, and those that first pieces took.
pub record TellAnswers (n : ℕ) (notes : List Note) (answers : List (ℕ × Answer))
    (completed taken : List (ℕ × (ℕ × ℕ))) : Type 0 where
  -- the bytes that it gave are those of its answers, in their order
  pub bytes : given n notes ≡ sent n answers
  -- the number with which it ended is how many there are
  pub number : (x : ℕ) → Contains notes (Ended n (One x)) → x ≡ length (sent n answers)
  -- one handler completed for each answer
  pub each : length (those n completed) ≡ length (sent n answers)
  -- and each handler that was taken completed at most once, in their order
  pub handlers : AreSomeOf (those n completed) (those n taken)

-- Over any events of which one is a `serve`, whose number no call in flight and no other event has,
-- the notes tell its answers.
abbrev pub ServesTellAnswers : Meaning → Type 0
ServesTellAnswers m =
    (k : Kernel) (blocks : Blocks) (before after : List (ℕ × Event)) (ios : List (List Bool))
    (n p port : ℕ) (bytes : List ℕ) → IsUnused n k → AreOthers n before → AreOthers n after →
    let es = before ++ (n, Sys p (Serve port bytes)) ∷ after in
    TellAnswers n (run_from m k blocks es ios).notes (run_answers m k blocks es ios)
    (run_completed m k blocks es ios) (run_taken m k blocks es ios)

-- so it is with each table whose `serve` is that of the event points
abbrev pub EachServeTellsAnswers : Type 0
EachServeTellsAnswers = (m : Meaning) → MeansServe m → ServesTellAnswers m

-- ---- over lines

-- In each run of a script, from its first line on and over any disk: where a line is run as a
-- `serve`, the notes with its event's number tell its answers, whatever the lines before and after
-- it say. Images are loaded among them, and no premise is on numbers: those of a run rise.
abbrev pub LinesTellAnswers : Build → Type 0
LinesTellAnswers b =
    (keys : Keys) (d : Disk) (before after : List (List ℕ)) (text : List ℕ)
    (ios : List (List Bool)) (p port : ℕ) (bytes : List ℕ) →
    let s = run_of b keys d before ios in
    line_event b.words s text ≡ Some (Sys p (Serve port bytes)) →
    let texts = before ++ text ∷ after in
    let first = first_session d in
    TellAnswers (suc s.events) (after_lines b keys d.size first texts ios).notes
    (lines_show (event_on_shows b.meaning (step_answers b.meaning)) b keys d.size first texts ios)
    (lines_show (event_on_shows b.meaning (step_completed b.meaning)) b keys d.size first texts ios)
    (lines_show (event_on_shows b.meaning step_taken) b keys d.size first texts ios)

-- so it is with each table whose `serve` is that of the event points
abbrev pub EachLineTellsAnswers : Type 0
EachLineTellsAnswers = (b : Build) → MeansServe b.meaning → LinesTellAnswers b

-- and with the program's
abbrev pub RunsTellAnswers : Type 0
RunsTellAnswers = LinesTellAnswers whole
