-- The laws of raw images and their bytes.
use Rattle.std.specs.Prelude.{◌≡◌, ℕ, ◌<◌, List, slice_index, Ok}
use Rattle.graft_code.specs.World.{Image, plain_image}
use Rattle.graft_code.specs.Images.{IsRawImage, raw_image, read_raw}

-- the bytes of an image read back as the image of its code and data
abbrev pub ReadUndoesWrite : Type 0
ReadUndoesWrite =
    (i : Image) → IsRawImage i → read_raw (raw_image i.code i.body) ≡ Ok (plain_image i.code i.body)

-- bytes that read as an image are those that the image writes
abbrev pub WriteUndoesRead : Type 0
WriteUndoesRead =
    (bytes : List ℕ) (i : Image) → ((k : ℕ) → slice_index bytes k < 256) → read_raw bytes ≡ Ok i →
    raw_image i.code i.body ≡ bytes
