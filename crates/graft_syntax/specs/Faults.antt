-- What the faults of the reader stand for.
use Rattle.std.specs.Prelude.{◌≡◌, ℕ, Result, Ok, Err, MatchResult}
use Rattle.graft_texts.specs.declared.language.LangKind.{LangKind}
use Rattle.graft_syntax.specs.declared.LangFault.{LangFault}
use Rattle.graft_syntax.specs.declared.LangFault.TheVariants as fault
use Rattle.graft_syntax.specs.declared.grammar.Refusal.{Refusal}
use Rattle.graft_syntax.specs.declared.grammar.Refusal.TheVariants as refusal
use Rattle.graft_texts.specs.LanguageReading.{LineFault}

-- a fault is the refusal that is said; want of memory stands for none
abbrev pub Refuses : {A : Type 0} → LangFault → Result A LineFault → Type 0
Refuses (fault.At line kind) said = said ≡ Err (record { line = line; kind = kind })
Refuses fault.NoMemory said = Unit {0}

-- the same of one token, whose line isn't looked at
abbrev pub Stops : {A : Type 0} → Refusal → Result A LangKind → Type 0
Stops (refusal.Of kind) said = said ≡ Err kind
Stops refusal.NoMemory said = Unit {0}

-- a step ends as is said: with the value that is said, or with the refusal that is said or want of
-- memory
abbrev pub StepsAs : {A : Type 0} → Result (Unit {0}) Refusal → (now : A) → Result A LangKind → Type 0
StepsAs result now said = MatchResult result (λ _. said ≡ Ok now) (λ e. Stops e said)

-- what is read is what is said, or the fault is one that is said or want of memory
abbrev pub ReadsAs : {A : Type 0} → Result A LangFault → Result A LineFault → Type 0
ReadsAs result said = MatchResult result (λ a. said ≡ Ok a) (λ e. Refuses e said)

-- the fault of a refusal in a line
abbrev pub fault_in : (line : ℕ) → Refusal → LangFault
fault_in line (refusal.Of kind) = fault.At line kind
fault_in line refusal.NoMemory = fault.NoMemory
