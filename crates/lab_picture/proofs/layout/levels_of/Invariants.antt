use Rattle.std.proofs.Common.{◌≡◌, max, drop}
use Rattle.lab_picture.specs.Strips as spec
use Rattle.lab_picture.proofs.layout.levels_of.Given as goal

abbrev pub invariant-loop-bar : goal.invariant-loop-bar
invariant-loop-bar l =
    max l.most (spec.most_levels (drop l.bar-index l.bars)) ≡ spec.most_levels l.bars
