use Rattle.std.proofs.Common.{◌-◌, length, drop}
use Rattle.lab_lines.specs.Told.{Tells, lines_in}
use Rattle.lab_lines.proofs.telling.add_rest.Given as goal

abbrev pub invariant-loop-k : goal.invariant-loop-k
invariant-loop-k l =
    Tells l.initial.out.items l.out.items (lines_in (drop l.first l.pieces)) (lines_in (drop l.k l.pieces))

abbrev pub decreases-loop-k : goal.decreases-loop-k
decreases-loop-k l = length l.pieces - l.k
