-- What the faults of the loader stand for.
use Rattle.std.specs.Prelude.{◌≡◌, ℕ, List, [], Option, None, Some, Result, Err}
use Rattle.graft_code.specs.Images as model
use Rattle.graft_code.specs.Bytes.{spaced}
use Rattle.graft_code.specs.ImageTexts.{load_fault_text}
use Rattle.box_verify.specs.declared.VerifyFault.{VerifyFault}
use Rattle.box_verify.specs.declared.VerifyFault.TheVariants as verify
use Rattle.gm_image.specs.declared.ImageFault.{ImageFault}
use Rattle.gm_image.specs.declared.ImageFault.TheVariants as image
use Rattle.graft_loader.specs.declared.LoadFault.{LoadFault}
use Rattle.graft_loader.specs.declared.LoadFault.TheVariants.{Length, Magic, Version, TooLarge}
use Rattle.graft_loader.specs.declared.LoadFault.TheVariants.{BadFlags, NoKey, Seal, BadOp}
use Rattle.graft_loader.specs.declared.LoadFault.TheVariants.{Register, Jump, Memory, Call, End}
use Rattle.graft_loader.specs.declared.LoadFault.TheVariants.{NoMemory}

-- the refusal of the definitions that a fault is; want of memory is none
abbrev pub refusal_of : LoadFault → Option model.LoadFault
refusal_of Length = Some model.Length
refusal_of Magic = Some model.Magic
refusal_of Version = Some model.Version
refusal_of TooLarge = Some model.TooLarge
refusal_of BadFlags = Some model.BadFlags
refusal_of NoKey = Some model.NoKey
refusal_of Seal = Some model.Seal
refusal_of (BadOp pc) = Some (model.BadOp pc)
refusal_of (Register pc) = Some (model.Register pc)
refusal_of (Jump pc) = Some (model.Jump pc)
refusal_of (Memory pc) = Some (model.Memory pc)
refusal_of (Call pc) = Some (model.DirectCall pc)
refusal_of End = Some model.End
refusal_of NoMemory = None

-- what is said is this refusal, if there is one
abbrev pub IsRefused : {A : Type 0} → Option model.LoadFault → Result A model.LoadFault → Type 0
IsRefused None said = Unit {0}
IsRefused (Some fault) said = said ≡ Err fault

-- a fault is the refusal that is said; want of memory stands for none
abbrev pub Refuses : {A : Type 0} → LoadFault → Result A model.LoadFault → Type 0
Refuses fault said = IsRefused (refusal_of fault) said

-- what is written of a refusal, if there is one
abbrev pub refusal_text : Option model.LoadFault → List ℕ
refusal_text None = []
refusal_text (Some fault) = load_fault_text fault

-- what is written of a fault
abbrev pub fault_text : LoadFault → List ℕ
fault_text fault = refusal_text (refusal_of fault)

-- a place behind a code, if there is one
abbrev pub place_text : Option ℕ → List ℕ
place_text None = []
place_text (Some pc) = spaced pc

-- a fault of the verifier as one of the loader
abbrev pub of_verifier : VerifyFault → LoadFault
of_verifier (verify.Register pc) = Register pc
of_verifier (verify.Jump pc) = Jump pc
of_verifier (verify.Memory pc) = Memory pc
of_verifier (verify.Call pc) = Call pc
of_verifier verify.End = End

-- a fault of the image's head as one of the loader
abbrev pub of_image : ImageFault → LoadFault
of_image image.Length = Length
of_image image.Magic = Magic
of_image image.Version = Version
of_image image.TooLarge = TooLarge
of_image (image.BadOp pc) = BadOp pc
of_image image.NoMemory = NoMemory
