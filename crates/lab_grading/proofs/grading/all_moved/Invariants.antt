use Rattle.std.proofs.Common.{◌≡◌, take, map}
use Rattle.lab_grading.specs.Graded as spec
use Rattle.lab_grading.proofs.grading.all_moved.Given as goal

abbrev pub invariant-loop-piece : goal.invariant-loop-piece
invariant-loop-piece l =
    l.all.items ≡ map (spec.moved l.from l.to) (take l.piece-index l.pieces)
