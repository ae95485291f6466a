use Rattle.std.proofs.Common.{◌∙◌}
use Rattle.lab_lowering.proofs.ImageLists.{AreImagesOf-more, grafts_refusal-more}
use Rattle.lab_lowering.proofs.images.images_of.Goals as goal

pub loop-graft-preserved : goal.loop-graft-preserved
loop-graft-preserved c =
    record {
      written =
          rw c.in_ok-put.ensures (AreImagesOf-more _ _ _ _ _ c.loop-graft.invariant.written
          c.loop-graft-test.true c.graft-item.is c.in_ok-image.ensures.ok);
      taken =
          c.loop-graft.invariant.taken ∙ grafts_refusal-more _ _ _ c.loop-graft-test.true
          c.graft-item.is c.in_ok-image.ensures.taken;
    }
