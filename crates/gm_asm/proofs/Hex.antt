-- Hex digits, in this repository's words and in those of the library.
use Rattle.std.proofs.Common.{◌≡◌, ℕ, zero, suc, get_or, ◌++◌, codes, ◌/◌, ◌+◌, ◌*◌, ◌%◌, ◌<◌}
use Rattle.std.proofs.Common.{Bool, true, false, cond, eqb, List, [], ◌∷◌, length, Option, None}
use Rattle.std.proofs.Common.{Some, Result, Ok, Err, refl, ap, ◌∙◌, arith, ◌⊎◌, inl, inr, Fits, w8}
use Rattle.std.proofs.lemmas.Bool.Decides.{nat_tests}
use Rattle.std.proofs.lemmas.Bool.{eqb-true}
use Rattle.hex.specs.declared.error.FromHexError.{FromHexError}
use Rattle.hex.specs.declared.error.FromHexError.TheVariants.{OddLength, OutOfMemory}
use Rattle.hex.specs.Hex.{hex_digit_value, digit_or_error, decode_pairs, decode_of, ◌>>=◌}
use Rattle.hex.specs.Hex.{encode_with, encode_lower, lower_digits}
use Rattle.graft_texts.specs.Assembler.{body_text}
use Rattle.graft_texts.specs.Bytes.{hex_value, byte_before, hex_bytes, hex_digit as hex_glyph, hex_text}

-- an answer without its error
abbrev pub said : {A : Type 0} → Result A FromHexError → Option A
said (Ok x) = Some x
said (Err e) = None

-- the value of a digit
hex_value-same : (c : ℕ) → hex_value c ≡ hex_digit_value c
hex_value-same c = grind (arith, nat_tests)

-- the byte of two digits with these values
abbrev pair_of : (i c d : ℕ) (high low : Option ℕ) → Result ℕ FromHexError
pair_of i c d high low = digit_or_error c i high >>= λ h. digit_or_error d (i + 1) low >>= λ l. Ok (h * 16 + l)

-- a byte of two digits in front
pair_by : (i c d : ℕ) (high low : Option ℕ) (bytes : Option (List ℕ))
    (more : Result (List ℕ) FromHexError) → bytes ≡ said more
    → byte_before high low bytes ≡ said (pair_of i c d high low >>= λ byte. more >>= λ rest. Ok (byte ∷ rest))
pair_by i c d None low bytes more e = refl
pair_by i c d (Some x) None bytes more e = refl
pair_by i c d (Some x) (Some y) bytes (Ok rest) e =
    let same : 16 * x + y ≡ x * 16 + y = omega arith in
    rw e (ap (λ (byte : ℕ). Some (byte ∷ rest)) same)
pair_by i c d (Some x) (Some y) bytes (Err fault) e = rw e refl

-- the bytes of pairs of digits
hex_bytes-pairs : (i : ℕ) (text : List ℕ) → hex_bytes text ≡ said (decode_pairs i text)
unfolding decode_pairs
hex_bytes-pairs i [] = refl
hex_bytes-pairs i (c ∷ []) = refl
hex_bytes-pairs i (c ∷ d ∷ rest) =
    ap (λ (v : Option ℕ). byte_before v (hex_value d) (hex_bytes rest)) (hex_value-same c)
    ∙ ap (λ (v : Option ℕ). byte_before (hex_digit_value c) v (hex_bytes rest)) (hex_value-same d)
    ∙ pair_by i c d (hex_digit_value c) (hex_digit_value d) (hex_bytes rest)
    (decode_pairs (i + 2) rest) (hex_bytes-pairs (i + 2) rest)

-- no byte in front of nothing
before_none : (high low : Option ℕ) → byte_before high low None ≡ None
before_none None low = refl
before_none (Some x) None = refl
before_none (Some x) (Some y) = refl

-- an odd number of digits writes no bytes
hex_bytes-odd : (text : List ℕ) → length text % 2 ≡ 1 → hex_bytes text ≡ None
hex_bytes-odd [] h = absurd (omega (arith, h))
hex_bytes-odd (c ∷ []) h = refl
hex_bytes-odd (c ∷ d ∷ rest) h = rw (hex_bytes-odd rest (omega arith)) (before_none (hex_value c) (hex_value d))

-- the bytes of hex digits
pub hex_bytes-said : (text : List ℕ) → hex_bytes text ≡ said (decode_of text)
hex_bytes-said text = by (eqb (length text % 2) 1) refl
  where
    by : (odd : Bool) → eqb (length text % 2) 1 ≡ odd
        → hex_bytes text ≡ said (cond {A = Result (List ℕ) FromHexError} odd (Err OddLength) (decode_pairs 0 text))
    by true e = hex_bytes-odd text (eqb-true (length text % 2) 1 e)
    by false e = hex_bytes-pairs 0 text

-- digits that don't decode write no bytes
pub hex_bytes-err : (text : List ℕ) (e : FromHexError) → (e ≡ OutOfMemory → ⊥) →
    (e ≡ OutOfMemory) ⊎ (decode_of text ≡ Err e) → hex_bytes text ≡ None
hex_bytes-err text e other (inl memory) = absurd (other memory)
hex_bytes-err text e other (inr fault) = hex_bytes-said text ∙ ap said fault

-- the digit of a number below 16
glyph : (n : ℕ) → n < 16 → get_or lower_digits n 0 ≡ hex_glyph n
glyph zero h = refl
glyph (suc zero) h = refl
glyph (suc (suc zero)) h = refl
glyph (suc (suc (suc zero))) h = refl
glyph (suc (suc (suc (suc zero)))) h = refl
glyph (suc (suc (suc (suc (suc zero))))) h = refl
glyph (suc (suc (suc (suc (suc (suc zero)))))) h = refl
glyph (suc (suc (suc (suc (suc (suc (suc zero))))))) h = refl
glyph (suc (suc (suc (suc (suc (suc (suc (suc zero)))))))) h = refl
glyph (suc (suc (suc (suc (suc (suc (suc (suc (suc zero))))))))) h = refl
glyph (suc (suc (suc (suc (suc (suc (suc (suc (suc (suc zero)))))))))) h = refl
glyph (suc (suc (suc (suc (suc (suc (suc (suc (suc (suc (suc zero))))))))))) h = refl
glyph (suc (suc (suc (suc (suc (suc (suc (suc (suc (suc (suc (suc zero)))))))))))) h = refl
glyph (suc (suc (suc (suc (suc (suc (suc (suc (suc (suc (suc (suc (suc zero))))))))))))) h = refl
glyph (suc (suc (suc (suc (suc (suc (suc (suc (suc (suc (suc (suc (suc (suc zero)))))))))))))) h = refl
glyph (suc (suc (suc (suc (suc (suc (suc (suc (suc (suc (suc (suc (suc (suc (suc zero))))))))))))))) h = refl
glyph (suc
    (suc (suc (suc (suc (suc (suc (suc (suc (suc (suc (suc (suc (suc (suc (suc n)))))))))))))))) h =
    absurd (omega (arith, h))

-- bytes as hex digits, in the library's words
pub encode-hex_text : (bytes : List ℕ) → ((k : ℕ) → get_or bytes k 0 < 256) → encode_lower bytes ≡ hex_text bytes
unfolding encode_with
encode-hex_text [] g = refl
encode-hex_text (b ∷ bytes) g =
    let small : b < 256 = g 0 in
    let high : b / 16 < 16 = omega (arith, small) in
    let low : b % 16 < 16 = omega arith in
    rw (glyph (b / 16) high)
    (rw (glyph (b % 16) low) (ap (λ (ds : List ℕ). hex_glyph (b / 16) ∷ hex_glyph (b % 16) ∷ ds)
    (encode-hex_text bytes (λ k. g (suc k)))))

-- the line of data that is there
pub body_text-some : (body : List ℕ) → ((k : ℕ) → Fits w8 (get_or body k 0)) → false ≡ eqb (length body) 0
    → codes ".bytes " ++ encode_lower body ++ 10 ∷ [] ≡ body_text body
body_text-some [] g h = cc
body_text-some (b ∷ bytes) g h =
    ap (λ (ds : List ℕ). codes ".bytes " ++ ds ++ 10 ∷ [])
    (encode-hex_text (b ∷ bytes) (λ k. omega (arith, g k)))

-- bytes as digits of lower case
pub encode_with-lower : (bytes : List ℕ) → encode_with (codes "0123456789abcdef") bytes ≡ hex_text bytes
unfolding encode_with
encode_with-lower [] = refl
encode_with-lower (b ∷ bytes) = ap (λ text. hex_glyph (b / 16) ∷ hex_glyph (b % 16) ∷ text) (encode_with-lower bytes)
