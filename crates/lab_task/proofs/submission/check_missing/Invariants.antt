use Rattle.std.proofs.Common.{◌≡◌, drop}
use Rattle.lab_task.specs.Submission.{missing}
use Rattle.lab_task.proofs.submission.check_missing.Given as goal

abbrev pub invariant-loop-k : goal.invariant-loop-k
invariant-loop-k l = missing 0 l.gives l.grafts ≡ missing l.k (drop l.k l.gives) l.grafts
