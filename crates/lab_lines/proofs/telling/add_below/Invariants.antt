use Rattle.std.proofs.Common.{[]}
use Rattle.lab_lines.specs.Told.{Tells}
use Rattle.lab_lines.proofs.telling.add_below.Given as goal

abbrev pub invariant-loop : goal.invariant-loop
invariant-loop l = Tells l.initial.out.items l.out.items [] []
