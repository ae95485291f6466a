-- Lemmas on hex digits: the crate `hex` decodes them as the definitions do.
use Rattle.std.proofs.Common.{◌≡◌, ◌∙◌, ◌&&◌, true, false, is_some, ℕ, ◌+◌, ◌*◌, ◌%◌, Option, Some}
use Rattle.std.proofs.Common.{None, Result, Ok, Err, List, [], ◌∷◌, length, refl}
use Rattle.std.proofs.Common.{arith, ap}
use Rattle.std.specs.Result.{result_ok}
use Rattle.std.proofs.lemmas.Bool.Decides.{nat_tests}
use Rattle.hex.specs.declared.error.FromHexError.{FromHexError}
use Rattle.hex.specs.Hex.{hex_digit_value, digit_or_error, decode_pairs, decode_of, ◌>>=◌}
use Rattle.script_model.specs.Bytes.{hex_value, byte_before, hex_bytes}
use Rattle.std.specs.List.{list_all}
use Rattle.script_text.specs.Words.{is_hex_digit, bytes_or_none}

-- a digit has one value
same_value : (c : ℕ) → hex_digit_value c ≡ hex_value c
same_value c = grind (arith, nat_tests)

-- a byte of two digits before others
pair_step : (h l : Option ℕ) (c d i : ℕ) (rest : Result (List ℕ) FromHexError)
    → result_ok ((digit_or_error c i h >>= λ a. (digit_or_error d (i + 1) l >>=
    λ b. Ok (a * 16 + b))) >>= λ byte. (rest >>= λ bytes. Ok (byte ∷ bytes)))
    ≡ byte_before h l (result_ok rest)
pair_step None l c d i rest = refl
pair_step (Some a) None c d i rest = refl
pair_step (Some a) (Some b) c d i (Err e) = refl
pair_step (Some a) (Some b) c d i (Ok bytes) =
    let e : a * 16 + b ≡ 16 * a + b = omega arith in
    ap (λ n. Some (n ∷ bytes)) e

-- pairs of digits
decode_pairs-ok : (i : ℕ) (text : List ℕ) → result_ok (decode_pairs i text) ≡ hex_bytes text
unfolding decode_pairs
decode_pairs-ok i [] = refl
decode_pairs-ok i (c ∷ []) = refl
decode_pairs-ok i (c ∷ d ∷ text) =
    rw (← same_value c, ← same_value d, ← decode_pairs-ok (i + 2) text)
    (pair_step (hex_digit_value c) (hex_digit_value d) c d i (decode_pairs (i + 2) text))

byte_before-none : (h l : Option ℕ) → byte_before h l None ≡ None
byte_before-none None l = refl
byte_before-none (Some h) None = refl
byte_before-none (Some h) (Some l) = refl

-- an odd number of digits writes no bytes
pub hex_bytes-odd : (text : List ℕ) → length text % 2 ≡ 1 → hex_bytes text ≡ None
hex_bytes-odd [] odd = absurd (omega (arith, odd))
hex_bytes-odd (c ∷ []) odd = refl
hex_bytes-odd (c ∷ d ∷ text) odd =
    rw (hex_bytes-odd text (omega (arith, odd))) (byte_before-none (hex_value c) (hex_value d))

-- a byte of two digits before others is one where all are digits, and only there
byte_before-is : (h l : Option ℕ) (rest : Option (List ℕ)) →
    is_some (byte_before h l rest) ≡ (is_some h && (is_some l && is_some rest))
byte_before-is None l rest = refl
byte_before-is (Some h) None rest = refl
byte_before-is (Some h) (Some l) None = refl
byte_before-is (Some h) (Some l) (Some rest) = refl

-- an even number of digits writes bytes where all are digits, and only there
pub hex_bytes-all : (text : List ℕ) → length text % 2 ≡ 0 → is_some (hex_bytes text) ≡ list_all is_hex_digit text
hex_bytes-all [] even = refl
hex_bytes-all (c ∷ []) even = absurd (omega (arith, even))
hex_bytes-all (c ∷ d ∷ text) even =
    byte_before-is (hex_value c) (hex_value d) (hex_bytes text)
    ∙ ap (λ b. is_hex_digit c && (is_hex_digit d && b)) (hex_bytes-all text (omega (arith, even)))

some_is : (bytes : Option (List ℕ)) → is_some bytes ≡ true → Some (bytes_or_none bytes) ≡ bytes
some_is (Some bytes) h = refl
some_is None h = cc

none_is : (bytes : Option (List ℕ)) → is_some bytes ≡ false → bytes ≡ None
none_is None h = refl
none_is (Some bytes) h = cc

-- digits into new bytes
pub decode_of-ok : (text : List ℕ) → result_ok (decode_of text) ≡ hex_bytes text
decode_of-ok text = grind (arith, nat_tests, decode_pairs-ok 0 text, hex_bytes-odd text)

-- an even number of digits, of which none is another byte, writes these bytes
pub hex_bytes-some : (text : List ℕ) → length text % 2 ≡ 0 → list_all is_hex_digit text ≡ true →
    Some (bytes_or_none (hex_bytes text)) ≡ hex_bytes text
hex_bytes-some text even all = some_is (hex_bytes text) (hex_bytes-all text even ∙ all)

-- and where one is another byte, none
pub hex_bytes-none : (text : List ℕ) → length text % 2 ≡ 0 → list_all is_hex_digit text ≡ false → hex_bytes text ≡ None
hex_bytes-none text even not_all = none_is (hex_bytes text) (hex_bytes-all text even ∙ not_all)
