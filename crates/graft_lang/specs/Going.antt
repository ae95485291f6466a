-- How far the code of statements comes, beside what the statements do.
use Rattle.std.specs.Prelude.{◌≡◌, ℕ, suc, ◌+◌, ◌*◌, ◌^◌, ◌<◌, ◌≤◌, List, [], ◌∷◌, length, Option, Some, None, ⊤}
use Rattle.graft_texts.specs.declared.Instr.{Instr}
use Rattle.graft_texts.specs.Machine.{masked_place}
use Rattle.graft_texts.specs.Runs.{CodeRun, MadeCall, Unanswered, AtReturn, AtDivision, AtTrap, run_by}
use Rattle.graft_texts.specs.LanguageMeaning.{Expression, Program, Done, Assigns, Calls, When, Either, Loops, Traps}
use Rattle.graft_texts.specs.LanguageMeaning.{Answers, End, Answered, Trapped, DividedByZero, Asks, Going, State, does}
use Rattle.graft_texts.specs.LanguageImages.{AreWords}
use Rattle.graft_lang.specs.Code.{statements_code}
use Rattle.graft_lang.specs.Placing.{Fits, Stands, IsAt}

-- a run of this code
abbrev pub run : List Instr → ℕ → CodeRun → CodeRun
run code n r = run_by masked_place code n r

-- a state that hasn't ended
abbrev pub going : (cells : ℕ → ℕ) → List MadeCall → (answers : List (ℕ × ℕ)) → (turns : ℕ) → State
going cells calls answers turns =
    record { cells = cells; calls = calls; answers = answers; turns = turns; ended = None }

-- the variables and the answers of a state are words
pub record IsSmall (s : State) : Type 0 where
  pub cells_are : (i : ℕ) → s.cells i < 2 ^ 32
  pub answers_are : AreWords s.answers

-- a run has this end
abbrev pub HasEnd : End → CodeRun → Type 0
HasEnd (Answered x y) r = (r.ended ≡ Some AtReturn) × (r.machine.regs 0 ≡ x)
    × (r.machine.regs 1 ≡ y)
HasEnd (Trapped code) r = r.ended ≡ Some (AtTrap code)
HasEnd DividedByZero r = r.ended ≡ Some AtDivision
HasEnd (Asks call) r =
    (r.ended ≡ Some (Unanswered call.id)) × (r.machine.regs 0 ≡ call.r0)
    × (r.machine.regs 1 ≡ call.r1)
    × (r.machine.regs 2 ≡ call.r2)
HasEnd Going r = r.ended ≡ None

-- The code of so many instructions is run to its end, with so many turns of loops, while s becomes
-- t; no turn takes more than `most` instructions.
pub record GoesOn (code : List Instr) (most top c len : ℕ) (r : CodeRun)
    (s t : State) : Type 0 where
  pub steps : ℕ
  pub used : ℕ
  pub turns_are : s.turns ≡ used + t.turns
  pub least : used ≤ steps
  pub bound : steps ≤ len + used * most
  pub stands : IsAt t.cells top (c + len) t.calls t.answers (run code steps r)
  pub small : IsSmall t

-- the code ends as t ended
pub record EndsSo (code : List Instr) (most len : ℕ) (r : CodeRun) (s t : State)
    (end : End) : Type 0 where
  pub steps : ℕ
  pub used : ℕ
  pub turns_are : used ≤ s.turns
  pub bound : steps ≤ len + used * most
  pub has : HasEnd end (run code steps r)
  pub calls_are : (run code steps r).calls ≡ t.calls

-- the code goes on for more instructions than there are turns
pub record Lasts (code : List Instr) (r : CodeRun) (s : State) : Type 0 where
  pub steps : ℕ
  pub more : s.turns < steps
  pub lasts : (run code steps r).ended ≡ None

-- the code does what made t of s, where t ended so, or goes on
abbrev pub GoesBy : Option End →
    (code : List Instr) (most top c len : ℕ) (r : CodeRun) (s t : State) → Type 0
GoesBy None code most top c len r s t = GoesOn code most top c len r s t
GoesBy (Some Going) code most top c len r s t = Lasts code r s
GoesBy (Some (Answered x y)) code most top c len r s t = EndsSo code most len r s t (Answered x y)
GoesBy (Some (Trapped n)) code most top c len r s t = EndsSo code most len r s t (Trapped n)
GoesBy (Some DividedByZero) code most top c len r s t = EndsSo code most len r s t DividedByZero
GoesBy (Some (Asks call)) code most top c len r s t = EndsSo code most len r s t (Asks call)

-- the code does what made t of s
abbrev pub Goes : (code : List Instr) (most top c len : ℕ) (r : CodeRun) (s t : State) → Type 0
Goes code most top c len r s t = GoesBy t.ended code most top c len r s t

-- expressions within a program: each fits
abbrev pub AllFit : (variables top : ℕ) → List Expression → Type 0
AllFit variables top [] = ⊤
AllFit variables top (e ∷ es) = (top < 1024) × Fits variables top e × AllFit variables (suc top) es

-- a program fits: each variable and each expression of it
abbrev pub FitsProgram : (variables : ℕ) → Program → Type 0
FitsProgram v Done = ⊤
FitsProgram v (Assigns i e p) = (i < v) × (v < 1024) × Fits v v e × FitsProgram v p
FitsProgram v (Calls i id es p) = (i < v) × (v + length es ≤ 1024) × AllFit v v es × FitsProgram v p
FitsProgram v (When e body p) = Fits v v e × FitsProgram v body × FitsProgram v p
FitsProgram v (Either e body other p) = Fits v v e × FitsProgram v body × FitsProgram v other
    × FitsProgram v p
FitsProgram v (Loops e body p) = Fits v v e × FitsProgram v body × FitsProgram v p
FitsProgram v (Traps code p) = FitsProgram v p
FitsProgram v (Answers e f p) = (v < 1023) × Fits v v e × Fits v (suc v) f × FitsProgram v p

-- the code of statements does what the statements do
abbrev pub StatementsRun : Type 0
StatementsRun =
    (p : Program) (code : List Instr) (most v c : ℕ) (cells : ℕ → ℕ)
    (calls : List MadeCall) (answers : List (ℕ × ℕ)) (turns : ℕ) (r : CodeRun)
    → IsSmall (going cells calls answers turns) → FitsProgram v p →
    Stands code c (statements_code v c p)
    → length (statements_code v c p) ≤ most → IsAt cells v c calls answers r
    → Goes code most v c (length (statements_code v c p)) r (going cells calls answers turns)
    (does p (going cells calls answers turns))
