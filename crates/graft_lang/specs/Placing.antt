-- How the code of a program and its meaning belong together while it runs.
use Rattle.std.specs.Prelude.{◌≡◌, ℕ, suc, ◌+◌, ◌*◌, ◌^◌, ◌<◌, ◌≤◌, cond, nat_lt, List, [], ◌∷◌, length, slice_get}
use Rattle.std.specs.Prelude.{Option, Some, None, ⊤}
use Rattle.graft_texts.specs.declared.Instr.{Instr}
use Rattle.graft_texts.specs.Machine.{Machine, Word, load, masked_place}
use Rattle.graft_texts.specs.Runs.{CodeRun, MadeCall, AtDivision, run_by}
use Rattle.graft_texts.specs.LanguageMeaning.{Expression, Number, Variable, Binary, value}
use Rattle.graft_lang.specs.Code.{expression_code}

-- there are so many variables, numbers are words, and there is room for operands
abbrev pub Fits : (variables top : ℕ) → Expression → Type 0
Fits variables top (Number n) = n < 2 ^ 32
Fits variables top (Variable i) = (i < variables) × (variables ≤ top) × (i < 1024)
Fits variables top (Binary a op b) =
    (top < 1024) × (variables ≤ top) × Fits variables top a × Fits variables (suc top) b

-- these instructions stand at this place
abbrev pub Stands : List Instr → ℕ → List Instr → Type 0
Stands code c [] = ⊤
Stands code c (i ∷ is) = (slice_get code c ≡ Some i) × Stands code (suc c) is

-- a word of memory
abbrev pub word_of : (ℕ → ℕ) → ℕ → ℕ
word_of memory i = load Word memory (4 * i)

-- what a slot has: a register, or a word of the segment
abbrev pub slot_of : Machine → ℕ → ℕ
slot_of m i = cond (nat_lt i 7) (m.regs (7 + i)) (word_of m.memory i)

-- a run stands at a place, with these values in the slots below `top`, these calls made and these
-- answers left
pub record IsAt (cells : ℕ → ℕ) (top c : ℕ) (calls : List MadeCall) (answers : List (ℕ × ℕ))
    (r : CodeRun) : Type 0 where
  pub place : r.machine.pc ≡ c
  pub going : r.ended ≡ None
  pub slots : (i : ℕ) → i < top → slot_of r.machine i ≡ cells i
  pub calls_are : r.calls ≡ calls
  pub answers_are : r.answers ≡ answers

-- where the value of an expression is this, its code comes to its end with it in this register; or
-- it divides by zero on the way
abbrev pub ComesIn : (reg : ℕ) (cells : ℕ → ℕ) (top c len : ℕ) → List MadeCall → List (ℕ × ℕ)
    → List Instr → CodeRun → Option ℕ → Type 0
ComesIn reg cells top c len calls answers code r (Some x) =
    let u = run_by masked_place code len r in IsAt cells top (c + len) calls answers u
    × (u.machine.regs reg ≡ x)
ComesIn reg cells top c len calls answers code r None =
    (n : ℕ) × (n ≤ len) × ((run_by masked_place code n r).ended ≡ Some AtDivision)
    × ((run_by masked_place code n r).calls ≡ calls)

-- the same with the value in r4
abbrev pub ComesTo : (cells : ℕ → ℕ) (top c len : ℕ) → List MadeCall → List (ℕ × ℕ) → List Instr
    → CodeRun → Option ℕ → Type 0
ComesTo cells top c len calls answers code r x = ComesIn 4 cells top c len calls answers code r x

-- the code of an expression comes to its value
abbrev pub ExpressionsRun : Type 0
ExpressionsRun =
    (e : Expression) (code : List Instr) (cells : ℕ → ℕ)
    (variables top c : ℕ) (calls : List MadeCall) (answers : List (ℕ × ℕ)) (r : CodeRun) →
    ((i : ℕ) → cells i < 2 ^ 32) → Fits variables top e → Stands code c (expression_code top e)
    → IsAt cells top c calls answers r →
    ComesTo cells top c (length (expression_code top e)) calls answers code r (value cells e)
