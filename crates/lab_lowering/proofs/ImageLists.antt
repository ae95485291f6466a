-- An image for each graft, one graft more.
use Rattle.std.proofs.Common.{◌≡◌, ℕ, suc, ◌+◌, ◌<◌, Option, None, Some, List, [], ◌∷◌, ◌++◌}
use Rattle.std.proofs.Common.{length, take, drop, get_or, refl, ap, arith, add-one}
use Rattle.std.proofs.lemmas.List.{take_more}
use Rattle.std.proofs.Math.Seq.{drop-cons}
use Rattle.script_model.specs.World.{Image}
use Rattle.lab_reader.specs.Grafts.{Graft}
use Rattle.lab_lowering.specs.Lowering.{AreImagesOf, IsImageOf, graft_refusal, grafts_refusal}

-- one more graft, and its image
AreImagesOf-append : (gs : List Graft) (is : List Image) (g : Graft) (i : Image) → AreImagesOf gs is → IsImageOf g i
    → AreImagesOf (gs ++ g ∷ []) (is ++ i ∷ [])
AreImagesOf-append [] [] g i h w = (w, tt)
AreImagesOf-append [] (j ∷ js) g i h w = absurd h
AreImagesOf-append (k ∷ ks) [] g i h w = absurd h
AreImagesOf-append (k ∷ ks) (j ∷ js) g i h w = (h.0, AreImagesOf-append ks js g i h.1 w)

-- the grafts up to the next one, and its image
pub AreImagesOf-more : (gs : List Graft) (is : List Image) (k : ℕ) (g : Graft) (i : Image)
    → AreImagesOf (take k gs) is → k < length gs → g ≡ get_or gs k g → IsImageOf g i
    → AreImagesOf (take (k + 1) gs) (is ++ i ∷ [])
AreImagesOf-more gs is k g i h within at w =
    rw (take_more gs k g within, ← at) (AreImagesOf-append (take k gs) is g i h w)

-- a graft that isn't refused doesn't decide
taken_by : (g : Graft) (gs : List Graft) → graft_refusal g ≡ None → grafts_refusal (g ∷ gs) ≡ grafts_refusal gs
taken_by g gs h = rw (grafts_refusal, h) refl

-- the next graft isn't refused
pub grafts_refusal-more : (gs : List Graft) (k : ℕ) (g : Graft)
    → k < length gs → g ≡ get_or gs k g → graft_refusal g ≡ None
    → grafts_refusal (drop k gs) ≡ grafts_refusal (drop (k + 1) gs)
grafts_refusal-more gs k g within at h =
    rw (drop-cons gs k g within, ← at, add-one k) (taken_by g (drop (suc k) gs) h)
