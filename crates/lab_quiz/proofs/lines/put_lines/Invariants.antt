use Rattle.std.proofs.Common.{◌≡◌, ◌++◌, length, filter}
use Rattle.lab_lines.specs.Told.{is_line, lines_of}
use Rattle.lab_quiz.proofs.lines.put_lines.Given as goal

-- the lines so far, and those that are left
abbrev pub invariant-loop-line : goal.invariant-loop-line
invariant-loop-line l =
    l.lines.items ++ filter is_line l.parts ≡ l.initial.lines.items ++ lines_of l.text

abbrev pub decreases-loop-line : goal.decreases-loop-line
decreases-loop-line l = length l.parts
