use Rattle.std.proofs.Common.{◌≡◌, drop}
use Rattle.std.specs.Prelude.{find}
use Rattle.lab_story.specs.Bars.{is_open_at}
use Rattle.lab_story.proofs.marks.runs_other.Given as goal

abbrev pub invariant-loop-bar : goal.invariant-loop-bar
invariant-loop-bar l =
    find (is_open_at l.call l.level) (drop l.bar-index l.bars) ≡ find (is_open_at l.call l.level) l.bars
