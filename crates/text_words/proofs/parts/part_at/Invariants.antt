use Rattle.std.proofs.Common.{◌≡◌, ◌==◌, drop}
use Rattle.std.specs.List.{slice_split}
use Rattle.text_words.proofs.parts.part_at.Given as goal

abbrev pub invariant-loop : goal.invariant-loop
invariant-loop l = l.parts ≡ drop l.counter (slice_split (λ b. b == l.separator) l.text)
