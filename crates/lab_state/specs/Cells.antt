-- The values of a state.
use Rattle.std.specs.Prelude.{ℕ, List, map}
use Rattle.lab_state.specs.declared.cells.Cell.{Cell}

-- the values with their places
abbrev pub values_of : List Cell → List (ℕ × List ℕ)
values_of cells = map (λ (c : Cell). (c.place, c.value.items)) cells
