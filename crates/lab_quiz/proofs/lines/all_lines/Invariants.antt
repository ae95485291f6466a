use Rattle.std.proofs.Common.{◌≡◌, take}
use Rattle.lab_lines.specs.Told.{lines_in}
use Rattle.lab_quiz.proofs.lines.all_lines.Given as goal

-- the lines of the pieces so far
abbrev pub invariant-loop-piece : goal.invariant-loop-piece
invariant-loop-piece l = l.lines.items ≡ lines_in (take l.piece-index l.pieces)
