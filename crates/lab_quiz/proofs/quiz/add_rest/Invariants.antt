use Rattle.std.proofs.Common.{◌-◌, length, drop}
use Rattle.lab_quiz.specs.Quiz.{Adds}
use Rattle.lab_quiz.proofs.quiz.add_rest.Given as goal

-- the lines from the first one on, up to this one
abbrev pub invariant-loop-k : goal.invariant-loop-k
invariant-loop-k l =
    Adds l.initial.out.items l.out.items (drop l.first l.lines) (drop l.k l.lines)

abbrev pub decreases-loop-k : goal.decreases-loop-k
decreases-loop-k l = length l.lines - l.k
