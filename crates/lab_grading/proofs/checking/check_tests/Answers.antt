use Rattle.lab_grading.proofs.Lists.{checked_more}
use Rattle.lab_grading.proofs.checking.check_tests.Goals as goal

pub loop-test-preserved : goal.loop-test-preserved
loop-test-preserved c =
    rw c.in_ok-put.ensures (checked_more _ _ _ _ _ _ c.loop-test.invariant c.loop-test-test.true
    c.test-item.is c.in_ok-checked.ensures)
