use Rattle.std.proofs.Common.{◌≡◌, map, take, drop, ◌++◌}
use Rattle.lab_story.specs.Bars.{named}
use Rattle.lab_story.proofs.marks.name_level.Given as goal

abbrev pub invariant-loop-bar : goal.invariant-loop-bar
invariant-loop-bar l =
    l.bars
    ≡ map (named l.process l.level l.text) (take l.bar-index l.initial.bars)
    ++ drop l.bar-index l.initial.bars
