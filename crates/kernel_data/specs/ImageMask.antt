-- Which images are loaded, as the bits of a number.
use Rattle.std.specs.Prelude.{◌≡◌, ℕ, ◌/◌, ◌%◌, ◌^◌, ◌==◌, ◌<◌, Bool, is_some}
use Rattle.kernel_data.specs.World.{ImageTable}

-- bit k of this number is set
abbrev pub has_bit : ℕ → ℕ → Bool
has_bit k bits = (bits / 2 ^ k) % 2 == 1

-- bit k tells whether image k of the table is loaded
abbrev pub TellsImages : ℕ → ImageTable → Type 0
TellsImages bits images = (k : ℕ) → k < 32 → is_some (images k) ≡ has_bit k bits
