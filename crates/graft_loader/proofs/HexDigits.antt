-- Lemmas on hex digits: the crate `hex` decodes pairs of them and keys as the definitions do.
use Rattle.std.proofs.Common.{◌≡◌, ℕ, ◌+◌, ◌*◌, Option, Some, None, Result, Ok, Err, List, [], ◌∷◌, refl, arith, ap}
use Rattle.std.specs.Result.{result_ok}
use Rattle.std.proofs.lemmas.Bool.Decides.{nat_tests}
use Rattle.hex.specs.declared.error.FromHexError.{FromHexError}
use Rattle.hex.specs.Hex.{hex_digit_value, digit_or_error, decode_pairs, decode_sized, ◌>>=◌}
use Rattle.graft_code.specs.Bytes.{hex_value, byte_before, hex_bytes}
use Rattle.graft_loader.specs.Keys.{key_of}

-- a digit has one value
same_value : (c : ℕ) → hex_digit_value c ≡ hex_value c
same_value c = grind (arith, nat_tests)

-- a byte of two digits before others
pair_step : (h l : Option ℕ) (c d i : ℕ) (rest : Result (List ℕ) FromHexError)
    → result_ok ((digit_or_error c i h >>= λ a. (digit_or_error d (i + 1) l >>=
    λ b. Ok (a * 16 + b))) >>= λ byte. (rest >>= λ bytes. Ok (byte ∷ bytes)))
    ≡ byte_before h l (result_ok rest)
pair_step None l c d i rest = refl
pair_step (Some a) None c d i rest = refl
pair_step (Some a) (Some b) c d i (Err e) = refl
pair_step (Some a) (Some b) c d i (Ok bytes) =
    let e : a * 16 + b ≡ 16 * a + b = omega arith in
    ap (λ n. Some (n ∷ bytes)) e

-- pairs of digits
pub decode_pairs-ok : (i : ℕ) (text : List ℕ) → result_ok (decode_pairs i text) ≡ hex_bytes text
unfolding decode_pairs
decode_pairs-ok i [] = refl
decode_pairs-ok i (c ∷ []) = refl
decode_pairs-ok i (c ∷ d ∷ text) =
    rw (← same_value c, ← same_value d, ← decode_pairs-ok (i + 2) text)
    (pair_step (hex_digit_value c) (hex_digit_value d) c d i (decode_pairs (i + 2) text))

-- digits into room for a key
pub decode_sized-ok : (text : List ℕ) → result_ok (decode_sized text 32) ≡ key_of text
decode_sized-ok text = grind (arith, nat_tests, decode_pairs-ok 0 text)
