use Rattle.std.proofs.Common.{◌≡◌, take}
use Rattle.lab_lines.specs.Written.{written_by}
use Rattle.lab_matching.proofs.owners.lines_by.Given as goal

abbrev pub invariant-loop-piece : goal.invariant-loop-piece
invariant-loop-piece l =
    l.lines.items ≡ written_by l.owner l.last (take l.piece-index l.pieces)
