use Rattle.std.proofs.Common.{take, drop}
use Rattle.lab_lines.proofs.Ordered.{Ordered}
use Rattle.lab_lines.proofs.pieces.in_order.Given as goal

abbrev pub invariant-loop-piece : goal.invariant-loop-piece
invariant-loop-piece l =
    Ordered l.last l.from l.ordered.items (take l.piece-index l.pieces) (drop l.piece-index l.pieces)
