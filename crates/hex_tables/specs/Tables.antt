-- What comes of decoding, and what stands in the tables.
use Rattle.std.specs.Prelude.{ℕ, ◌*◌, ◌/◌, ◌%◌, ◌==◌, cond, Bool, true, false, List, Option, Some, None}
use Rattle.kernel_data.specs.Bytes.{hex_digit}

-- bytes that were decoded, if they were
abbrev pub decoded : Bool → List ℕ → Option (List ℕ)
decoded true bytes = Some bytes
decoded false bytes = None

-- so many times the value of a digit, or 256 for none
abbrev pub scaled : (factor : ℕ) → Option ℕ → ℕ
scaled factor None = 256
scaled factor (Some value) = factor * value

-- the digit at a place, where each byte has its high one at twice the byte and its low one behind it
abbrev pub digit_at : ℕ → ℕ
digit_at k = hex_digit (cond (k % 2 == 0) (k / 2 / 16) (k / 2 % 16))
