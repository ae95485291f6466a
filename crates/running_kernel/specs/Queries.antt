-- What is asked of a running kernel.
use Rattle.std.specs.Prelude.{ℕ, suc, List, [], ◌∷◌, length, Option, Some, None}
use Rattle.kernel_data.specs.declared.Note.{Note}
use Rattle.kernel_data.specs.declared.Note.TheVariants.{InGraft}
use Rattle.placed_laws.specs.Placed.{PlacedLevel}

-- the note of a call in a graft, if it is in one
abbrev pub note_in_graft : ℕ → List PlacedLevel → Option Note
note_in_graft n [] = None
note_in_graft n (l ∷ ls) = Some (InGraft n l.owner l.point (suc (length ls)))
