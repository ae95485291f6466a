use Rattle.std.proofs.Common.{◌≡◌, ◌++◌, ◌-◌, length, drop}
use Rattle.lab_quiz.specs.Quiz.{asked_of}
use Rattle.lab_quiz.proofs.lines.asked_lines.Given as goal

-- the lines so far, and those that are still to come
abbrev pub invariant-loop-k : goal.invariant-loop-k
invariant-loop-k l =
    l.asked.items ++ asked_of (drop l.k l.marks) (drop l.k l.lines) ≡ asked_of l.marks l.lines

abbrev pub decreases-loop-k : goal.decreases-loop-k
decreases-loop-k l = length l.marks - l.k
