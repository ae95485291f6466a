use Rattle.std.proofs.Common.{◌≡◌, ◌+◌, ◌≤◌, ◌==◌, length}
use Rattle.std.specs.List.{slice_split}
use Rattle.lab_task.specs.Task.{with_lines, first_task}
use Rattle.lab_task.proofs.reader.read_lines.Given as goal

abbrev pub invariant-loop-line : goal.invariant-loop-line
invariant-loop-line l =
    record {
      said : with_lines 1 first_task (slice_split (λ b. b == 10) l.text)
          ≡ with_lines l.number l.task l.lines;
      few : l.number + length l.lines ≤ 16777218;
    }

abbrev pub decreases-loop-line : goal.decreases-loop-line
decreases-loop-line l = length l.lines
