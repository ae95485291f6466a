-- What is seen of a kernel at a moment.
use Rattle.std.specs.Prelude.{ℕ, ◌+◌, ◌*◌, ◌==◌, ◌&&◌, cond, List, [], ◌∷◌, ◌++◌, Option, None, Some, slice_index}
use Rattle.std.specs.List.{find}
use Rattle.std.specs.Option.{option_or}
use Rattle.script_model.specs.declared.RawRow.{RawRow}
use Rattle.script_model.specs.declared.RawRow.TheVariants.{Level, Graft}
use Rattle.lab_levels.specs.declared.view.LevelRow.{LevelRow}

-- the rows, the levels among them, and the registers of the innermost levels, 16 behind 16
pub record Seen : Type 0 where
  pub rows : List RawRow
  pub levels : List LevelRow
  pub registers : List ℕ

-- nothing
abbrev pub nothing_seen : Seen
nothing_seen = record { rows = []; levels = []; registers = [] }

-- the level that a row shows, if it is the row of one
abbrev pub level_in : RawRow → Option LevelRow
level_in (Level process depth owner point count) =
    Some (record { process = process; depth = depth; owner = owner; point = point; count = count })
level_in row = None

-- a level behind others, if there is one
abbrev pub with_level : Option LevelRow → List LevelRow → List LevelRow
with_level None levels = levels
with_level (Some level) levels = levels ++ level ∷ []

-- a row more, and its level
abbrev pub with_row : RawRow → Seen → Seen
with_row row s =
    record s { rows = s.rows ++ row ∷ []; levels = with_level (level_in row) s.levels }

-- a register more
abbrev pub with_register : ℕ → Seen → Seen
with_register value s = record s { registers = s.registers ++ value ∷ [] }

-- the level of a process at a depth: the first that was seen
abbrev pub level_at : (process depth : ℕ) → List LevelRow → Option LevelRow
level_at process depth levels =
    find (λ (l : LevelRow). l.process == process && l.depth == depth) levels

-- the deepest level of a process, of the four that there may be
abbrev pub innermost : (process : ℕ) → List LevelRow → Option LevelRow
innermost process levels =
    option_or (level_at process 3 levels)
    (option_or (level_at process 2 levels)
    (option_or (level_at process 1 levels) (level_at process 0 levels)))

-- the slot of the image of a graft that a row shows, if it is the graft of this process and point
abbrev pub slot_in : (owner point : ℕ) → RawRow → Option ℕ
slot_in owner point (Graft q pt slot n keeps counts) =
    cond (q == owner && pt == point) (Some slot) None
slot_in owner point row = None

-- the slot that the first such row shows
abbrev pub slot_of : (owner point : ℕ) → List RawRow → Option ℕ
slot_of owner point [] = None
slot_of owner point (row ∷ rows) = option_or (slot_in owner point row) (slot_of owner point rows)

-- a register of a process's innermost level; 0 where it wasn't seen
abbrev pub register_of : (process i : ℕ) → List ℕ → ℕ
register_of process i registers = slice_index registers (16 * process + i)
