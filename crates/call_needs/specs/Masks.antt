-- A table of images of which a mask tells: where a clause speaks of all such tables, there is one.
use Rattle.std.specs.Prelude.{◌≡◌, ℕ, Bool, true, false, cond, [], Some, None, is_some}
use Rattle.std.proofs.Common.{refl}
use Rattle.kernel_model.specs.World.{Image, ImageTable, plain_image}
use Rattle.kernel_model.specs.ImageMask.{TellsImages, has_bit}

-- the table in which the images of these bits are loaded, all alike
abbrev pub table_of_mask : ℕ → ImageTable
table_of_mask bits k = cond (has_bit k bits) (Some (plain_image [] [])) None

-- an image is loaded where the test says so
loaded : (b : Bool) (i : Image) → is_some (cond b (Some i) None) ≡ b
loaded true i = refl
loaded false i = refl

-- the bits tell which of its images are loaded
pub mask_tells : (bits : ℕ) → TellsImages bits (table_of_mask bits)
mask_tells bits = λ k below. loaded (has_bit k bits) _
