-- What is written about an image that is loaded or refused.
use Rattle.std.specs.Prelude.{ℕ, List, ◌++◌, codes, length}
use Rattle.kernel_data.specs.Bytes.{spaced}
use Rattle.kernel_data.specs.World.{Image}
use Rattle.graft_code.specs.Images.{LoadFault}

-- the L code of a refused image, and the place of the fault if it has one
abbrev pub load_fault_text : LoadFault → List ℕ
load_fault_text LoadFault.Length = codes "L1"
load_fault_text LoadFault.Magic = codes "L2"
load_fault_text LoadFault.Version = codes "L3"
load_fault_text LoadFault.TooLarge = codes "L4"
load_fault_text LoadFault.Seal = codes "L5"
load_fault_text (LoadFault.BadOp pc) = codes "L6" ++ spaced pc
load_fault_text (LoadFault.Register pc) = codes "L7" ++ spaced pc
load_fault_text (LoadFault.Jump pc) = codes "L8" ++ spaced pc
load_fault_text (LoadFault.Memory pc) = codes "L9" ++ spaced pc
load_fault_text (LoadFault.DirectCall pc) = codes "L10" ++ spaced pc
load_fault_text LoadFault.End = codes "L11"
load_fault_text LoadFault.BadFlags = codes "L12"
load_fault_text LoadFault.NoKey = codes "L13"

-- how many instructions and data bytes an image has
abbrev pub image_text : Image → List ℕ
image_text i = codes "ok" ++ spaced (length i.code) ++ spaced (length i.body)
