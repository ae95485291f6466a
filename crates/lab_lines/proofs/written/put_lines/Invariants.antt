use Rattle.std.proofs.Common.{◌≡◌, ◌++◌, length, filter, map}
use Rattle.lab_lines.specs.Told.{is_line, lines_of}
use Rattle.lab_lines.specs.Written.{line_by}
use Rattle.lab_lines.proofs.written.put_lines.Given as goal

-- the lines so far, and those that are left
abbrev pub invariant-loop-line : goal.invariant-loop-line
invariant-loop-line l =
    l.out.items ++ map (line_by l.owner) (filter is_line l.lines)
    ≡ l.initial.out.items ++ map (line_by l.owner) (lines_of l.piece)

abbrev pub decreases-loop-line : goal.decreases-loop-line
decreases-loop-line l = length l.lines
