use Rattle.std.proofs.Common.{◌≡◌}
use Rattle.lab_places.specs.Places as spec
use Rattle.lab_places.proofs.lines.line_of.Given as goal

abbrev pub invariant-loop-i : goal.invariant-loop-i
invariant-loop-i l = (l.number ≡ spec.line_number l.text l.i) × (l.from ≡ spec.line_begin l.text l.i)
