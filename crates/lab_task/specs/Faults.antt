-- Refusals of lines of a task, and what the faults of its reader stand for.
use Rattle.std.specs.Prelude.{ℕ, ◌≡◌, Result, Ok, Err, MatchResult}
use Rattle.lab_task.specs.declared.faults.TaskFault.{TaskFault}
use Rattle.lab_task.specs.declared.faults.TaskFault.TheVariants.{At, NoMemory}
use Rattle.lab_task.specs.declared.faults.TaskKind.{TaskKind}

-- a line that is refused, and why
pub record Refusal : Type 0 where
  pub line : ℕ
  pub kind : TaskKind

-- the line is refused
abbrev pub refused : {A : Type 0} → ℕ → TaskKind → Result A Refusal
refused line kind = Err (record { line = line; kind = kind })

-- a fault is the refusal that is said; want of memory stands for none
abbrev pub Refuses : {A : Type 0} → TaskFault → Result A Refusal → Type 0
Refuses (At line kind) said = said ≡ Err (record { line = line; kind = kind })
Refuses NoMemory said = Unit {0}

-- a step ends as is said: with the value that is said, or with the refusal that is said or want of
-- memory
abbrev pub StepsAs : {A : Type 0} → Result (Unit {0}) TaskFault → (now : A) → Result A Refusal → Type 0
StepsAs result now said = MatchResult result (λ _. said ≡ Ok now) (λ e. Refuses e said)

-- what is read is what is said, or the fault is one that is said or want of memory
abbrev pub ReadsAs : {A : Type 0} → Result A TaskFault → Result A Refusal → Type 0
ReadsAs result said = MatchResult result (λ a. said ≡ Ok a) (λ e. Refuses e said)
