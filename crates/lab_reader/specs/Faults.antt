-- Refusals of lines of a lab file, and what the faults of its reader stand for.
use Rattle.std.specs.Prelude.{ℕ, ◌≡◌, Option, Some, Result, Ok, Err, MatchResult}
use Rattle.lab_reader.specs.declared.faults.LabFault.{LabFault}
use Rattle.lab_reader.specs.declared.faults.LabFault.TheVariants.{At, TooLong, NotUtf8, NoMemory}
use Rattle.lab_reader.specs.declared.faults.LabKind.{LabKind}

-- a line that is refused, and why
pub record Refusal : Type 0 where
  pub line : ℕ
  pub kind : LabKind

-- the line is refused
abbrev pub refused : {A : Type 0} → ℕ → LabKind → Result A Refusal
refused line kind = Err (record { line = line; kind = kind })

-- a fault is the refusal that is said; want of memory stands for none
abbrev pub Refuses : {A : Type 0} → LabFault → Result A Refusal → Type 0
Refuses (At line kind) said = said ≡ Err (record { line = line; kind = kind })
Refuses TooLong said = ⊥
Refuses (NotUtf8 at) said = ⊥
Refuses NoMemory said = Unit {0}

-- the same of a refusal that there may be
abbrev pub RefusesWith : LabFault → Option Refusal → Type 0
RefusesWith (At line kind) said = said ≡ Some (record { line = line; kind = kind })
RefusesWith TooLong said = ⊥
RefusesWith (NotUtf8 at) said = ⊥
RefusesWith NoMemory said = Unit {0}

-- a step ends as is said: with the value that is said, or with the refusal that is said or want of
-- memory
abbrev pub StepsAs : {A : Type 0} → Result (Unit {0}) LabFault → (now : A) → Result A Refusal → Type 0
StepsAs result now said = MatchResult result (λ _. said ≡ Ok now) (λ e. Refuses e said)

-- what is read is what is said, or the fault is one that is said or want of memory
abbrev pub ReadsAs : {A : Type 0} → Result A LabFault → Result A Refusal → Type 0
ReadsAs result said = MatchResult result (λ a. said ≡ Ok a) (λ e. Refuses e said)
