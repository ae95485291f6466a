use Rattle.std.proofs.Common.{◌≡◌, ◌≤◌, ◌+◌, length}
use Rattle.std.specs.Prelude.{count_by}
use Rattle.lab_story.specs.Events.{is_event, event_count}
use Rattle.lab_story.proofs.event.count_events.Given as goal

abbrev pub invariant-loop-line : goal.invariant-loop-line
invariant-loop-line l =
    (l.count + count_by is_event l.lines ≡ event_count l.script)
    × (l.count + length l.lines ≤ length l.script + 1)

abbrev pub decreases-loop-line : goal.decreases-loop-line
decreases-loop-line l = length l.lines
