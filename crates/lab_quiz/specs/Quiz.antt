-- Which lines of a run a quiz leaves out, and what stands in it.
use Rattle.std.specs.Prelude.{◌≡◌, ℕ, zero, suc, ◌+◌, ◌-◌, ◌*◌, ◌/◌, ◌%◌, Bool, cond}
use Rattle.std.specs.Prelude.{nat_lt, List, [], ◌∷◌, ◌++◌, length, filter, flat_map, codes}
use Rattle.lab_lines.specs.Told.{Told, shown, written_in}

-- the next number of the generator
abbrev pub next : ℕ → ℕ
next state = (state * 1664525 + 1013904223) % 4294967296

-- a number with its halves exchanged, since its last bits come round soon
abbrev pub turned : ℕ → ℕ
turned state = state / 65536 + state % 65536 * 65536

-- whether the first of so many lines is left out, where so many of them are
abbrev pub is_drawn : (state rest left : ℕ) → Bool
is_drawn state rest left = nat_lt (turned state % rest) left

-- which of so many lines are left out, where so many of them are
abbrev pub drawn : (rest left state : ℕ) → List Bool
drawn zero left state = []
drawn (suc rest) left state =
    is_drawn (next state) (suc rest) left
    ∷ drawn rest (left - cond (is_drawn (next state) (suc rest) left) 1 0) (next state)

-- a third of so many lines, and one at least where there are some
abbrev pub third : ℕ → ℕ
third count = count / 3 + cond (nat_lt 0 (count % 3)) 1 0

-- which of so many lines a quiz of this seed leaves out
abbrev pub left_out : (seed count : ℕ) → List Bool
left_out seed count = drawn count (third count) seed

-- what stands in the place of a line that is left out
abbrev pub blank : List ℕ
blank = codes "?"

-- lines, of which those that are marked are left out
abbrev pub asked_of : List Bool → List (List ℕ) → List (List ℕ)
asked_of [] lines = []
asked_of (mark ∷ marks) [] = []
asked_of (mark ∷ marks) (line ∷ lines) = cond mark blank line ∷ asked_of marks lines

-- the lines of a quiz: with the answers all lines of the run, and else some of them are left out
abbrev pub asked : (answers : Bool) → (seed : ℕ) → List (List ℕ) → List (List ℕ)
asked answers seed lines =
    cond answers lines (asked_of (left_out seed (length lines)) lines)

-- Behind a text stand lines more, and with them these lines of the quiz, each as it is and in their
-- order, but for the rest of them.
pub record Adds (old new : List ℕ) (lines rest : List (List ℕ)) : Type 0 where
  pub parts : List Told
  pub text_is : new ≡ old ++ flat_map shown parts
  pub lines_are : lines ≡ flat_map written_in parts ++ rest

-- the text has these lines, and beside them lines of `lab` alone
abbrev pub HasLines : (text : List ℕ) → List (List ℕ) → Type 0
HasLines text lines = Adds [] text lines []

-- ---- what is left out

abbrev pub is_left_out : Bool → Bool
is_left_out mark = mark

-- how many lines are left out
abbrev pub count_out : List Bool → ℕ
count_out marks = length (filter is_left_out marks)

-- a quiz leaves out a third of its lines, and marks each
pub record LeavesThird (seed count : ℕ) : Type 0 where
  pub each : length (left_out seed count) ≡ count
  pub third : count_out (left_out seed count) ≡ third count
