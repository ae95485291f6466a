use Rattle.std.proofs.Common.{◌≡◌, ◌≤◌}
use Rattle.lab_picture.specs.Escapes.{word_end}
use Rattle.lab_picture.proofs.escape.word_end.Given as goal

abbrev pub invariant-loop-at : goal.invariant-loop-at
invariant-loop-at l = (word_end l.text l.at ≡ word_end l.text l.most) × (l.at ≤ l.most)

abbrev pub decreases-loop-at : goal.decreases-loop-at
decreases-loop-at l = l.at
