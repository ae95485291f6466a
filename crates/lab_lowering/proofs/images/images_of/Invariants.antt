use Rattle.std.proofs.Common.{◌≡◌, take, drop}
use Rattle.lab_lowering.specs.Lowering.{AreImagesOf, grafts_refusal}
use Rattle.lab_lowering.proofs.images.images_of.Given as goal

abbrev pub invariant-loop-graft : goal.invariant-loop-graft
invariant-loop-graft l =
    record {
      written : AreImagesOf (take l.graft-index l.grafts) l.images.items;
      taken : grafts_refusal l.grafts ≡ grafts_refusal (drop l.graft-index l.grafts);
    }
