use Rattle.std.proofs.Common.{◌≡◌, take}
use Rattle.lab_scoring.specs.Figures as spec
use Rattle.lab_scoring.proofs.figures.sum_of.Given as goal

abbrev pub invariant-loop-column : goal.invariant-loop-column
invariant-loop-column l = l.sum ≡ spec.sum_of l.figure (take l.column-index l.columns)
