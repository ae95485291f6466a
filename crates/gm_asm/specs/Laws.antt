-- The law of the assembler.
use Rattle.std.specs.Prelude.{◌≡◌, ℕ, ◌<◌, slice_index, Ok}
use Rattle.graft_texts.specs.World.{Image, plain_image}
use Rattle.graft_texts.specs.Images.{IsRawImage}
use Rattle.graft_texts.specs.Assembler.{assemble, disassemble}

-- the text of an image assembles to the image of its code and data
abbrev pub AssembleUndoesDisassemble : Type 0
AssembleUndoesDisassemble = (i : Image) → IsRawImage i → ((k : ℕ) → slice_index i.body k < 256) →
    assemble (disassemble i) ≡ Ok (plain_image i.code i.body)
