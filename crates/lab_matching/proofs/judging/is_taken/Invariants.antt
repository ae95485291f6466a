use Rattle.std.proofs.Common.{◌≡◌, length, filter}
use Rattle.std.specs.List.{list_any}
use Rattle.lab_lines.specs.AsWanted.{is_refusal}
use Rattle.lab_lines.specs.Told.{is_line, lines_of}
use Rattle.lab_matching.proofs.judging.is_taken.Given as goal

abbrev pub invariant-loop-line : goal.invariant-loop-line
invariant-loop-line l =
    list_any is_refusal (filter is_line l.lines) ≡ list_any is_refusal (lines_of l.text)

abbrev pub decreases-loop-line : goal.decreases-loop-line
decreases-loop-line l = length l.lines
