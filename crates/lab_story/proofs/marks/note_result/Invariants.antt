use Rattle.std.proofs.Common.{◌≡◌, map, take, drop, ◌++◌}
use Rattle.lab_story.specs.Bars.{noted}
use Rattle.lab_story.proofs.marks.note_result.Given as goal

abbrev pub invariant-loop-bar : goal.invariant-loop-bar
invariant-loop-bar l =
    l.bars
    ≡ map (noted l.call l.said) (take l.bar-index l.initial.bars) ++ drop l.bar-index l.initial.bars
