-- The laws of sealed images: what is sealed loads.
use Rattle.std.specs.Prelude.{◌≡◌, ℕ, List, None, Some, Ok}
use Rattle.graft_code.specs.declared.Keys.{Keys}
use Rattle.graft_code.specs.World.{Image, plain_image}
use Rattle.graft_code.specs.Boxed.{box_fault}
use Rattle.graft_code.specs.Images.{IsRawImage, first_sealed_image, flags_with, sealed_image, key_of, load, reseal}

-- an image within the limits whose code is boxed
pub record IsBoxedImage (i : Image) : Type 0 where
  pub raw : IsRawImage i
  pub boxed : box_fault i.code ≡ None

-- sealed under the key of a number with its flags, an image loads under keys of which this is the
-- one of that number
abbrev pub SealedImagesLoad : Type 0
SealedImagesLoad =
    (keys : Keys) (number : ℕ) (key : List ℕ) (i : Image) → key_of keys number ≡ Some key →
    IsBoxedImage i →
    load keys (sealed_image key number (flags_with i.keep) i.code i.body) ≡ Ok i

-- an image of version 1 loads under the first key; it has no flags, and keeps nothing
abbrev pub FirstSealedImagesLoad : Type 0
FirstSealedImagesLoad =
    (keys : Keys) (i : Image) → IsBoxedImage i →
    load keys (first_sealed_image keys.first i.code i.body) ≡ Ok (plain_image i.code i.body)

-- what loads is sealed anew, and loads again under the same keys as the same image
abbrev pub ResealedImagesLoad : Type 0
ResealedImagesLoad =
    (keys : Keys) (bytes : List ℕ) (i : Image) → load keys bytes ≡ Ok i →
    (sealed : List ℕ) × (reseal keys bytes ≡ Ok sealed) × (load keys sealed ≡ Ok i)
