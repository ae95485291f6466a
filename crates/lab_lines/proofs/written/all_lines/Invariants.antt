use Rattle.std.proofs.Common.{◌≡◌, take}
use Rattle.lab_lines.specs.Written.{all_lines}
use Rattle.lab_lines.proofs.written.all_lines.Given as goal

-- the lines of the pieces so far
abbrev pub invariant-loop-piece : goal.invariant-loop-piece
invariant-loop-piece l = l.lines.items ≡ all_lines l.last (take l.piece-index l.pieces)
