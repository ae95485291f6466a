use Rattle.std.proofs.Common.{◌≡◌, ◌++◌, length, map}
use Rattle.lab_counts.specs.Notes as spec
use Rattle.lab_counts.proofs.notes.notes_of.Given as goal

-- the notes so far, and those of the lines that are left
abbrev pub invariant-loop-line : goal.invariant-loop-line
invariant-loop-line l =
    spec.notes_of l.calls l.text ≡ l.notes.items ++ map (spec.note_of l.calls) l.lines

abbrev pub decreases-loop-line : goal.decreases-loop-line
decreases-loop-line l = length l.lines
