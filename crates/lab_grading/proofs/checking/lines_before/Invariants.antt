use Rattle.std.proofs.Common.{◌≡◌, ◌+◌, ◌≤◌, length}
use Rattle.lab_grading.specs.Graded as spec
use Rattle.lab_grading.proofs.checking.lines_before.Given as goal

-- the lines so far, and those that are left
abbrev pub invariant-loop-line : goal.invariant-loop-line
invariant-loop-line l =
    record {
      all : spec.lines_before l.front ≡ l.count + length l.lines;
      few : l.count + length l.lines ≤ length l.front + 1;
    }

abbrev pub decreases-loop-line : goal.decreases-loop-line
decreases-loop-line l = length l.lines
