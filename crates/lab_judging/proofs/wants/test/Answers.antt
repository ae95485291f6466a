-- One more file.
use Rattle.std.proofs.Common.{◌+◌, arith}
use Rattle.lab_judging.proofs.Judging.{says_more}
use Rattle.lab_judging.proofs.wants.test.Goals as goal

pub loop-path-preserved : goal.loop-path-preserved
loop-path-preserved c =
    says_more c.loop-path.count.status c.test_file-count.result.status c.loop-path.path-index
    (c.loop-path.path-index + 1) (omega arith) c.loop-path.invariant c.test_file-count.ensures
