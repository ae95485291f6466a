use Rattle.std.proofs.Common.{◌≡◌, ◌+◌}
use Rattle.lab_judging.specs.Grading.{SoManyPass}
use Rattle.lab_judging.proofs.grades.grade_with.Given as goal

-- where the status is 0, each submission so far passes
abbrev pub invariant-loop-before : goal.invariant-loop-before
invariant-loop-before l = l.status ≡ 0 → SoManyPass l.ready (l.before + 1)
