-- What a list of calls that is too short is worth: nothing is left of it either, and yet the line
-- doesn't make the calls of it.
use Rattle.std.proofs.Common.{codes, ◌≡◌, Bool, true, List, [], ◌∷◌, refl}
use Rattle.kernel_data.specs.World.{Blocks}
use Rattle.vino_top.specs.Run.{Place, line_run, first_on, Uses}

-- `boot` reads a block. With no call told the definitions take it for one that doesn't fail, and nothing is left.
pub nothing_is_left : (c : Place) (blocks : Blocks) → (line_run c (first_on c.size blocks) (codes "boot") []).io ≡ []
nothing_is_left c blocks = refl
