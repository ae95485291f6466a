-- How an `image` line changes a kernel, and what it answers.
use Rattle.std.specs.Prelude.{ℕ, true, false, nat_lt, List, Option, None, Some, Result, Ok, Err, codes}
use Rattle.kernel_data.specs.Objects.{at}
use Rattle.kernel_data.specs.World.{Image}
use Rattle.graft_code.specs.Images.{LoadFault}
use Rattle.graft_code.specs.ImageTexts.{load_fault_text, image_text}
use Rattle.kernel_model.specs.Kernel.{Kernel}

-- a kernel with one more image
abbrev pub add_image : ℕ → Image → Kernel → Kernel
add_image slot i k = record k { images = at slot (Some i) k.images }

-- an image is put into a free slot, or the answer says why the bytes are no image
abbrev pub image_added : ℕ → Result Image LoadFault → Kernel → Kernel × List ℕ
image_added slot (Err fault) k = (k, load_fault_text fault)
image_added slot (Ok i) k = (add_image slot i k, image_text i)

-- a kernel after an image line, and the answer, if this is the result of loading its bytes
abbrev pub image_answer : ℕ → Result Image LoadFault → Kernel → Kernel × List ℕ
image_answer slot loaded k =
    elim (nat_lt 31 slot) [
      | true ↦ (k, codes "E8")
      | false ↦ elim (k.images slot) [
        | Some i ↦ (k, codes "E10")
        | None ↦ image_added slot loaded k
      ]
    ]
