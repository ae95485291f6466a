-- The table of loaded images as a list of slots.
use Rattle.std.specs.Prelude.{◌≡◌, ℕ, List, replicate, length, slice_index_or, Option, None}
use Rattle.graft_code.specs.World.{Image, ImageTable}
use Rattle.graft_code.specs.ImageMask.{TellsImages}

-- 32 free slots
abbrev pub no_slots : List (Option Image)
no_slots = replicate 32 None

-- no image is loaded
abbrev pub no_images : ImageTable
no_images slot = None

-- the loaded images by slot
abbrev pub table_of : List (Option Image) → ImageTable
table_of slots slot = slice_index_or slots slot None

-- 32 slots, of which the bits tell which have an image
pub record IsTable (slots : List (Option Image)) (mask : ℕ) : Type 0 where
  pub size : length slots ≡ 32
  pub told : TellsImages mask (table_of slots)

-- a free slot in place of this one
abbrev pub free_in_place : Option Image → Option Image
free_in_place slot = None
