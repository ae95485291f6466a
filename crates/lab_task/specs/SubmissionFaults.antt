-- What the faults of a submission stand for.
use Rattle.std.specs.Prelude.{◌≡◌, Option, None, Some, Result, Ok, Err, MatchResult}
use Rattle.lab_task.specs.declared.faults.SubmissionFault.{SubmissionFault}
use Rattle.lab_task.specs.declared.faults.SubmissionFault.TheVariants.{Stray, NoEnd, NotAsked, Missing, NoMemory}

-- a fault is the one that is said; want of memory stands for none
abbrev pub Refuses : {A : Type 0} → SubmissionFault → Result A SubmissionFault → Type 0
Refuses NoMemory said = Unit {0}
Refuses (Stray n) said = said ≡ Err (Stray n)
Refuses (NoEnd n) said = said ≡ Err (NoEnd n)
Refuses (NotAsked n) said = said ≡ Err (NotAsked n)
Refuses (Missing k) said = said ≡ Err (Missing k)

-- the same of a fault that there may be
abbrev pub RefusesWith : SubmissionFault → Option SubmissionFault → Type 0
RefusesWith NoMemory said = Unit {0}
RefusesWith (Stray n) said = said ≡ Some (Stray n)
RefusesWith (NoEnd n) said = said ≡ Some (NoEnd n)
RefusesWith (NotAsked n) said = said ≡ Some (NotAsked n)
RefusesWith (Missing k) said = said ≡ Some (Missing k)

-- a step ends as is said
abbrev pub StepsAs : {A : Type 0} → Result (Unit {0}) SubmissionFault → (now : A) →
    Result A SubmissionFault → Type 0
StepsAs result now said = MatchResult result (λ _. said ≡ Ok now) (λ e. Refuses e said)

-- what is read is what is said
abbrev pub ReadsAs : {A : Type 0} → Result A SubmissionFault → Result A SubmissionFault → Type 0
ReadsAs result said = MatchResult result (λ a. said ≡ Ok a) (λ e. Refuses e said)

-- nothing is wrong, or this is
abbrev pub IsFaultOf : Result (Unit {0}) SubmissionFault → Option SubmissionFault → Type 0
IsFaultOf result said = MatchResult result (λ _. said ≡ None) (λ e. RefusesWith e said)
