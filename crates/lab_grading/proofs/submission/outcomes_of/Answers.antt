use Rattle.lab_grading.proofs.Lists.{said_more}
use Rattle.lab_grading.proofs.submission.outcomes_of.Goals as goal

pub loop-checked-preserved : goal.loop-checked-preserved
loop-checked-preserved c =
    rw c.in_ok-put.ensures (said_more _ _ _ _ _ _ _ c.loop-checked.invariant c.loop-checked-test.true
    c.checked-item.is c.in_ok-outcome.ensures)
