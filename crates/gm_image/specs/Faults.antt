-- What the faults of images stand for.
use Rattle.std.specs.Prelude.{◌≡◌, Option, None, Some, Result, Err}
use Rattle.graft_code.specs.Images.{LoadFault}
use Rattle.gm_image.specs.declared.ImageFault.{ImageFault}
use Rattle.gm_image.specs.declared.ImageFault.TheVariants.{Length, Magic, Version, TooLarge, BadOp, NoMemory}

-- a fault is the refusal that is said; want of memory stands for none
abbrev pub Refuses : {A : Type 0} → ImageFault → Result A LoadFault → Type 0
Refuses Length said = said ≡ Err LoadFault.Length
Refuses Magic said = said ≡ Err LoadFault.Magic
Refuses Version said = said ≡ Err LoadFault.Version
Refuses TooLarge said = said ≡ Err LoadFault.TooLarge
Refuses (BadOp pc) said = said ≡ Err (LoadFault.BadOp pc)
Refuses NoMemory said = Unit {0}

-- the refusal that a fault is, if it is one
abbrev pub refusal_of : Option ImageFault → Option LoadFault
refusal_of None = None
refusal_of (Some Length) = Some LoadFault.Length
refusal_of (Some Magic) = Some LoadFault.Magic
refusal_of (Some Version) = Some LoadFault.Version
refusal_of (Some TooLarge) = Some LoadFault.TooLarge
refusal_of (Some (BadOp pc)) = Some (LoadFault.BadOp pc)
refusal_of (Some NoMemory) = None
