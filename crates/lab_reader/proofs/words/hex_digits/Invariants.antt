use Rattle.std.proofs.Common.{◌≡◌, drop}
use Rattle.lab_reader.specs.Words.{hex_after}
use Rattle.lab_reader.proofs.words.hex_digits.Given as goal

abbrev pub invariant-loop-digit : goal.invariant-loop-digit
invariant-loop-digit l = hex_after 0 l.digits ≡ hex_after l.number (drop l.digit-index l.digits)
