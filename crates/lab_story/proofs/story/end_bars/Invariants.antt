use Rattle.std.proofs.Common.{◌≡◌, map, take, drop, ◌++◌}
use Rattle.lab_story.specs.Bars.{ended}
use Rattle.lab_story.proofs.story.end_bars.Given as goal

abbrev pub invariant-loop-bar : goal.invariant-loop-bar
invariant-loop-bar l =
    l.bars
    ≡ map (ended l.call l.level l.event l.end) (take l.bar-index l.initial.bars)
    ++ drop l.bar-index l.initial.bars
