-- When each submission passes each test of a task.
use Rattle.std.specs.Prelude.{◌≡◌, ◌≤◌, ℕ, List, All, length, Ok}
use Rattle.lab_task.specs.Task.{task_of}
use Rattle.lab_grading.specs.declared.checking.Ready.{Ready}
use Rattle.lab_grading.specs.Graded.{IsReady, Passes}

-- a task was read from a text, and each of its tests behind grafts that stand for those of a submission
pub record Opened (ready : Ready) : Type 0 where
  pub text : List ℕ
  pub said : task_of text ≡ Ok ready.task
  pub read : IsReady ready

-- there is a submission that passes each test
pub record OnePasses (ready : Ready) : Type 0 where
  pub text : List ℕ
  pub passes : Passes ready text

-- so many submissions do
pub record SoManyPass (ready : Ready) (count : ℕ) : Type 0 where
  pub texts : List (List ℕ)
  pub counted : length texts ≡ count
  pub pass : All (Passes ready) texts

-- there is a task of which so many submissions pass each test
pub record AllGraded (count : ℕ) : Type 0 where
  pub ready : Ready
  pub opened : Opened ready
  pub pass : SoManyPass ready count

-- the same of some submissions, at least one
pub record SomeGraded : Type 0 where
  pub count : ℕ
  pub least : 1 ≤ count
  pub graded : AllGraded count
