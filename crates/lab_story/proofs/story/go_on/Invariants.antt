use Rattle.std.proofs.Common.{◌≡◌, map, take, drop, ◌++◌}
use Rattle.lab_story.specs.Bars.{gone_on}
use Rattle.lab_story.proofs.story.go_on.Given as goal

abbrev pub invariant-loop-bar : goal.invariant-loop-bar
invariant-loop-bar l =
    l.bars
    ≡ map (gone_on l.event) (take l.bar-index l.initial.bars)
    ++ drop l.bar-index l.initial.bars
