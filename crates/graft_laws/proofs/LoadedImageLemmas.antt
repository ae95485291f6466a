-- Once more images are loaded, those of grafts are the same.
use Rattle.std.specs.Prelude.{◌≡◌, ℕ, true, cond, List, [], ◌∷◌, Option, Some, None, is_some}
use Rattle.std.proofs.Common.{refl, sym, ap, ◌∙◌}
use Rattle.kernel_model.specs.World.{World, Image, ImageTable}
use Rattle.kernel_model.specs.Objects.{Accounts, GraftValue}
use Rattle.kernel_model.specs.Machine.{next_call}
use Rattle.kernel_model.specs.Levels.{Level, image_of, code_in}
use Rattle.kernel_model.specs.GraftStep.{is_spent, instruction_needs, next_needs}
use Rattle.kernel_model.specs.Sound.{ImagesAreLoaded}
use Rattle.kernel_model.specs.Alike.{Extends}

-- the image of a graft is the same where it is loaded
image_same : (images more : ImageTable) (a : Accounts) (q pt : ℕ) → Extends images more →
    ImagesAreLoaded images a → image_of more (a.graft q pt) ≡ image_of images (a.graft q pt)
image_same images more a q pt extends loaded = by_graft (a.graft q pt) refl
  where
    by_image : (slot : ℕ) (y : Option Image) → images slot ≡ y → is_some y ≡ true → more slot ≡ images slot
    by_image slot None e some = absurd cc
    by_image slot (Some i) e some = extends slot i e ∙ sym e

    by_graft : (g : Option GraftValue) → a.graft q pt ≡ g → image_of more g ≡ image_of images g
    by_graft None e = refl
    by_graft (Some g) e = by_image g.image (images g.image) refl (loaded q pt g e)

-- and so is what the next instruction needs
pub next_same : (v : World) (images more : ImageTable) (a : Accounts) (ls : List Level) →
    Extends images more → ImagesAreLoaded images a →
    next_needs v more a ls ≡ next_needs v images a ls
next_same v images more a [] extends loaded = refl
next_same v images more a (l ∷ ls) extends loaded =
    ap (λ (i : Option Image). cond (is_spent a l) []
    (instruction_needs v l (next_call (code_in i) l.machine)))
    (image_same images more a l.owner l.point extends loaded)
