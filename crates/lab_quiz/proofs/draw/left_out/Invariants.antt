use Rattle.std.proofs.Common.{◌≡◌, ◌++◌}
use Rattle.lab_quiz.specs.Quiz.{drawn, left_out}
use Rattle.lab_quiz.proofs.draw.left_out.Given as goal

-- the marks so far, and those that are still to come
abbrev pub invariant-loop-rest : goal.invariant-loop-rest
invariant-loop-rest l = l.marks.items ++ drawn l.rest l.left l.state ≡ left_out l.seed l.count

abbrev pub decreases-loop-rest : goal.decreases-loop-rest
decreases-loop-rest l = l.rest
