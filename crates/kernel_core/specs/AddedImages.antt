-- What an image line makes of a kernel, and what is said of it.
use Rattle.std.specs.Prelude.{◌≡◌, ℕ, Bool, true, false, cond, nat_lt, is_some, List, ◌++◌, codes}
use Rattle.std.specs.Prelude.{Option, None, Some, Result, Ok, Err}
use Rattle.kernel_model.specs.World.{Image, ImageTable}
use Rattle.kernel_model.specs.Images.{LoadFault}
use Rattle.kernel_model.specs.Kernel.{Kernel}
use Rattle.kernel_model.specs.Meaning.{Meaning}
use Rattle.kernel_model.specs.ImageLines.{image_answer}
use Rattle.kernel_model.specs.Sound.{IsAtRest}
use Rattle.kernel_model.specs.Bytes.{spaced}
use Rattle.graft_loader.specs.declared.LoadFault.TheVariants.{NoMemory}
use Rattle.graft_loader.specs.Faults.{fault_text}
use Rattle.placed_laws.specs.Placed.{Placed}
use Rattle.placed_laws.specs.Stands.{StandsFor}
use Rattle.kernel_core.specs.declared.images.ImageRefusal.{ImageRefusal}
use Rattle.kernel_core.specs.declared.images.ImageRefusal.TheVariants.{BadSlot, Taken, Unloaded}

-- why no image can stand in a slot: there is none of this number, or it has one
abbrev pub slot_refused : ImageTable → (slot : ℕ) → Option ImageRefusal
slot_refused images slot =
    cond (nat_lt 31 slot) (Some BadSlot) (cond (is_some (images slot)) (Some Taken) None)

-- the answer isn't want of memory
abbrev pub has_memory : Result (ℕ × ℕ) ImageRefusal → Bool
has_memory (Err (Unloaded NoMemory)) = false
has_memory _ = true

-- what is written of a refused image
abbrev pub refusal_said : ImageRefusal → List ℕ
refusal_said BadSlot = codes "E8"
refusal_said Taken = codes "E10"
refusal_said (Unloaded fault) = fault_text fault

-- what is written of an image: its sizes, or why it isn't added
abbrev pub image_said : Result (ℕ × ℕ) ImageRefusal → List ℕ
image_said (Ok sizes) = codes "ok" ++ spaced sizes.0 ++ spaced sizes.1
image_said (Err refusal) = refusal_said refusal

-- An image line whose bytes load so says this of a kernel, and leaves one that rests, for which
-- this kernel in place stands.
pub record ImageIsAdded (m : Meaning) (slot : ℕ) (loaded : Result Image LoadFault) (k : Kernel)
    (y : Placed)
    (said : List ℕ) : Type 0 where
  pub said_is : (image_answer slot loaded k).1 ≡ said
  pub stands : StandsFor m y (image_answer slot loaded k).0
  pub rests : IsAtRest m (image_answer slot loaded k).0
