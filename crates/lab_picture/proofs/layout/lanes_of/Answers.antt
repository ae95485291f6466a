use Rattle.std.proofs.Common.{◌∙◌, sym, arith}
use Rattle.lab_picture.proofs.Lanes.{with_more, without_more}
use Rattle.lab_picture.proofs.layout.lanes_of.Goals as goal
use Rattle.lab_picture.proofs.layout.lanes_of.Goals.{then-has_bar, else-has_bar}

pub loop-process-preserved : goal.loop-process-preserved
loop-process-preserved c =
    elim c.if-has_bar.branch [
      | then-has_bar w ↦
          rw (w.lanes-is, w.count-is)
          (with_more _ _ _ _ (omega arith) (sym c.has_bar.ensures ∙ w.if-has_bar.true)
          c.loop-process.invariant)
      | else-has_bar w ↦
          rw (w.lanes-is, w.count-is)
          (without_more _ _ _ _ (sym c.has_bar.ensures ∙ w.if-has_bar.false) c.loop-process.invariant)
    ]
