-- What is looked at of a call in flight.
use Rattle.std.specs.Prelude.{List, [], ◌∷◌, Option, Some, None}
use Rattle.placed_laws.specs.Placed.{PlacedLevel}

-- the innermost of these levels, if there is one
abbrev pub innermost_level : List PlacedLevel → Option PlacedLevel
innermost_level [] = None
innermost_level (l ∷ ls) = Some l
