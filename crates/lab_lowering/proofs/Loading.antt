-- The line that loads an image, by the bytes of the image sealed.
use Rattle.std.proofs.Common.{◌≡◌, ℕ, List, Result, subst}
use Rattle.std.specs.Prelude.{OnOk}
use Rattle.script_model.specs.declared.Keys.{Keys}
use Rattle.script_model.specs.World.{Image}
use Rattle.script_model.specs.Images.{sealed_under}
use Rattle.lab_lowering.specs.Lowering.{image_line, line_added, load_line}

-- the bytes that are loaded are those of this image, sealed
pub image_loaded : {A E : Type 0} (result : Result A E) (old new bytes : List ℕ) (keys : Keys) (slot : ℕ) (i : Image)
    → bytes ≡ sealed_under keys i → OnOk result (new ≡ line_added old (load_line slot bytes))
    → OnOk result (new ≡ line_added old (image_line keys slot i))
unfolding image_line
image_loaded result old new bytes keys slot i is h =
    subst (λ b. OnOk result (new ≡ line_added old (load_line slot b))) is h
