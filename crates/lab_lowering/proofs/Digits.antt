-- The crate `hex` encodes bytes as the definitions do.
use Rattle.std.proofs.Common.{◌≡◌, ℕ, ◌/◌, ◌%◌, List, [], ◌∷◌, refl, ap}
use Rattle.std.specs.Prelude.{codes}
use Rattle.hex.specs.Hex.{encode_with}
use Rattle.script_model.specs.Bytes.{hex_digit, hex_text}

-- bytes as digits of lower case
pub encode_with-lower : (bytes : List ℕ) → encode_with (codes "0123456789abcdef") bytes ≡ hex_text bytes
unfolding encode_with
encode_with-lower [] = refl
encode_with-lower (b ∷ bytes) = ap (λ text. hex_digit (b / 16) ∷ hex_digit (b % 16) ∷ text) (encode_with-lower bytes)
