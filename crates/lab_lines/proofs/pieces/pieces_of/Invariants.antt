use Rattle.std.proofs.Common.{◌≡◌, ◌≤◌, ◌++◌, length, drop}
use Rattle.lab_lines.specs.Told.{lines_in, lines_of}
use Rattle.lab_lines.proofs.pieces.pieces_of.Given as goal

-- the lines of the pieces so far, and of what is left
abbrev pub invariant-loop-to : goal.invariant-loop-to
invariant-loop-to l =
    (l.from ≤ length l.text) × (lines_of l.text ≡ lines_in l.pieces.items ++ lines_of (drop l.from l.text))
