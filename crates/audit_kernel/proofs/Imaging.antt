-- A kernel gets an image.
use Rattle.std.proofs.Common.{◌≡◌, ℕ, Option, Some, ap, ◌∙◌}
use Rattle.std.proofs.Math.Path.{fun_ext}
use Rattle.kernel_model.specs.World.{Image, ImageTable}
use Rattle.kernel_model.specs.Objects.{at}
use Rattle.kernel_model.specs.Kernel.{Kernel, Call}
use Rattle.kernel_model.specs.ImageLines.{add_image}

-- a kernel with one more image, whose calls are as they were
pub image_added : (k : Kernel) (slot : ℕ) (i : Image) (images : ImageTable) (calls : ℕ → Option Call) →
    images ≡ at slot (Some i) k.images → ((q : ℕ) → calls q ≡ k.call q) →
    (let l : Kernel = record k { images = images; call = calls } in l) ≡ add_image slot i k
image_added k slot i images calls is same =
    let made : ImageTable → (ℕ → Option Call) → Kernel = λ t f. record k { images = t; call = f } in
    ap (λ (t : ImageTable). made t calls) is ∙ ap (made (at slot (Some i) k.images)) (fun_ext same)
