-- The watcher's own lines, and how their texts and places stand for them.
use Rattle.std.specs.Prelude.{ℕ, ◌+◌, ◌-◌, ◌^◌, ◌≤◌, min, List, [], ◌∷◌, ◌++◌, map, slice_range, All}
use Rattle.lab_levels.specs.declared.own_lines.OwnLine.{OwnLine}

-- a line of the watcher: its text, and the place among the kernel's bytes before which it is to stand
pub record Own : Type 0 where
  pub place : ℕ
  pub text : List ℕ

-- the lines of the watcher so far, in their order, and the place of the next one
pub record Collected : Type 0 where
  pub lines : List Own
  pub place : ℕ

-- no line yet
abbrev pub no_lines : Collected
no_lines = record { lines = []; place = 0 }

-- a line more, at the place of the next one
abbrev pub with_line : List ℕ → Collected → Collected
with_line text c = record c { lines = c.lines ++ record { place = c.place; text = text } ∷ [] }

-- the next line stands behind so many bytes more of the kernel
abbrev pub behind : ℕ → Collected → Collected
behind count c = record c { place = min (c.place + count) (2 ^ 64 - 1) }

-- a line whose text stands among others
abbrev pub line_in : List ℕ → OwnLine → Own
line_in texts l = record { place = l.place; text = slice_range texts l.from l.to }

-- lines whose texts stand among others
abbrev pub lines_in : List ℕ → List OwnLine → List Own
lines_in texts lines = map (line_in texts) lines

-- the text of a line stands among so many bytes
abbrev pub IsWithin : ℕ → OwnLine → Type 0
IsWithin size l = (l.from ≤ l.to) × (l.to ≤ size)

-- the texts of all lines do
abbrev pub AreWithin : ℕ → List OwnLine → Type 0
AreWithin size lines = All (IsWithin size) lines
