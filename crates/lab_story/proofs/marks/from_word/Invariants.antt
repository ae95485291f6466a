use Rattle.std.proofs.Common.{◌≡◌}
use Rattle.lab_story.specs.Numbers.{from_word}
use Rattle.lab_story.proofs.marks.from_word.Given as goal

abbrev pub invariant-loop : goal.invariant-loop
invariant-loop l = l.rest ≡ from_word l.line l.counter
