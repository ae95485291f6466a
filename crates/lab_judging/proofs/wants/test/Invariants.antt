use Rattle.lab_judging.proofs.Judging.{SaysOf}
use Rattle.lab_judging.proofs.wants.test.Given as goal

-- what the status says of the files so far
abbrev pub invariant-loop-path : goal.invariant-loop-path
invariant-loop-path l = SaysOf l.count.status l.path-index
