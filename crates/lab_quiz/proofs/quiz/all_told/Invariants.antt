use Rattle.std.proofs.Common.{[], length, drop}
use Rattle.lab_quiz.specs.Quiz.{Adds}
use Rattle.lab_quiz.proofs.quiz.all_told.Given as goal

-- the lines of the quiz so far
abbrev pub invariant-loop-next : goal.invariant-loop-next
invariant-loop-next l = Adds [] l.out.items l.lines (drop l.next l.lines)

abbrev pub decreases-loop-next : goal.decreases-loop-next
decreases-loop-next l = length l.file
