use Rattle.std.proofs.Common.{◌≡◌}
use Rattle.lab_places.specs.Places as spec
use Rattle.lab_places.proofs.spans.word_span.Given as goal

abbrev pub invariant-loop : goal.invariant-loop
invariant-loop l = l.word ≡ spec.word_number l.line l.from l.end l.counter
