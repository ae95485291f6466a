use Rattle.std.proofs.Common.{◌≡◌, ◌≤◌, ◌+◌, ◌++◌, length}
use Rattle.lab_story.specs.Events.{lines_of}
use Rattle.lab_story.specs.Slow.{slow_lines}
use Rattle.lab_story.proofs.slow.slow_script.Given as goal

abbrev pub invariant-loop-line : goal.invariant-loop-line
invariant-loop-line l =
    (l.out.items ++ slow_lines l.chosen.first l.chosen.last l.events l.lines
    ≡ slow_lines l.chosen.first l.chosen.last 0 (lines_of l.script))
    × (l.events + length l.lines ≤ length l.script + 1)

abbrev pub decreases-loop-line : goal.decreases-loop-line
decreases-loop-line l = length l.lines
