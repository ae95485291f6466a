-- What stands in the tables, and steps of the loops over bytes and pairs of digits.
use Rattle.std.proofs.Common.{◌≡◌, ℕ, ◌+◌, ◌*◌, ◌/◌, ◌%◌, ◌<◌, ◌≤◌, List, [], ◌∷◌, ◌++◌, length, map, take, drop}
use Rattle.std.proofs.Common.{slice_index, slice_set, Bool, true, false, Option, Some, None, refl, sym, ap, ◌∙◌, arith}
use Rattle.std.proofs.Common.{subst}
use Rattle.std.proofs.lemmas.Bool.Decides.{nat_tests}
use Rattle.std.specs.Prelude.{slice_index_or}
use Rattle.std.specs.List.{range_with_len}
use Rattle.std.proofs.lemmas.List.FromFn.{get_or-map-range_with_len}
use Rattle.std.proofs.lemmas.List.{append_assoc, append-nil, drop_all, drop_more, take_all, take_more_set, length-set}
use Rattle.kernel_data.specs.Bytes.{hex_bytes, hex_digit, hex_text, hex_value, byte_before}
use Rattle.hex_tables.specs.declared.TheConstants.{DIGITS, HIGH, LOW}
use Rattle.hex_tables.specs.Tables.{decoded, digit_at, scaled}

-- ---- the tables

digits_row : map digit_at (range_with_len 0 512) ≡ DIGITS
digits_row = refl

high_row : map (λ c. scaled 16 (hex_value c)) (range_with_len 0 256) ≡ HIGH
high_row = refl

low_row : map (λ c. scaled 1 (hex_value c)) (range_with_len 0 256) ≡ LOW
low_row = refl

pub digits_are : (k : ℕ) → k < 512 → slice_index_or DIGITS k 0 ≡ digit_at k
digits_are k h =
    ap (λ xs. slice_index_or xs k 0) (sym digits_row)
    ∙ get_or-map-range_with_len digit_at 0 512 k k 0 h (omega arith)

pub high_is : (c : ℕ) → c < 256 → slice_index_or HIGH c 0 ≡ scaled 16 (hex_value c)
high_is c h =
    ap (λ xs. slice_index_or xs c 0) (sym high_row)
    ∙ get_or-map-range_with_len (λ d. scaled 16 (hex_value d)) 0 256 c c 0 h (omega arith)

pub low_is : (c : ℕ) → c < 256 → slice_index_or LOW c 0 ≡ scaled 1 (hex_value c)
low_is c h =
    ap (λ xs. slice_index_or xs c 0) (sym low_row)
    ∙ get_or-map-range_with_len (λ d. scaled 1 (hex_value d)) 0 256 c c 0 h (omega arith)

-- the digits of a byte
pub high_digit : (b k : ℕ) → k ≡ 2 * b → digit_at k ≡ hex_digit (b / 16)
high_digit b k h =
    let even : k % 2 ≡ 0 = omega (arith, h) in
    let half : k / 2 ≡ b = omega (arith, h) in
    rw (even, half) refl

pub low_digit : (b k : ℕ) → k ≡ 2 * b + 1 → digit_at k ≡ hex_digit (b % 16)
low_digit b k h =
    let odd : k % 2 ≡ 1 = omega (arith, h) in
    let half : k / 2 ≡ b = omega (arith, h) in
    rw (odd, half) refl

-- ---- bytes to digits

-- two writes in a row, seen from the front
take-two_writes : (xs : List ℕ) (o x y : ℕ) → o + 1 < length xs
    → take (o + 2) (slice_set (slice_set xs o x) (o + 1) y) ≡ take o xs ++ (x ∷ y ∷ [])
take-two_writes xs o x y fits =
    let len : length (slice_set xs o x) ≡ length xs = length-set xs o x in
    let two : o + 2 ≡ o + 1 + 1 = omega arith in
    let second = take_more_set (slice_set xs o x) (o + 1) y (omega (arith, len)) in
    let first = take_more_set xs o x (omega arith) in
    rw (two, second, first) (append_assoc (take o xs) (x ∷ []) (y ∷ []))

-- the digits of what is left of the bytes, from one byte on
hex_text-drop : (xs : List ℕ) (i : ℕ) → i < length xs
    → hex_text (drop i xs)
    ≡ hex_digit (slice_index xs i / 16) ∷ hex_digit (slice_index xs i % 16) ∷ hex_text (drop (i + 1) xs)
hex_text-drop xs i h = rw (drop_more xs i 0 h) refl

-- one byte more is written
pub encode_step : (bytes to : List ℕ) (i x y : ℕ) → i < length bytes → 2 * i + 1 < length to
    → x ≡ hex_digit (slice_index bytes i / 16) → y ≡ hex_digit (slice_index bytes i % 16)
    → take (2 * i) to ++ hex_text (drop i bytes) ≡ hex_text bytes
    → take (2 * (i + 1)) (slice_set (slice_set to (2 * i) x) (2 * i + 1) y) ++ hex_text (drop (i + 1) bytes)
    ≡ hex_text bytes
encode_step bytes to i x y h fits ex ey inv =
    let two : 2 * (i + 1) ≡ 2 * i + 2 = omega arith in
    let front = take-two_writes to (2 * i) x y fits in
    let rest = hex_text-drop bytes i h in
    rw (two, front, append_assoc, ex, ey) (rw rest at inv)

-- every byte is written
pub encode_done : (bytes to : List ℕ) (i : ℕ) → length bytes ≤ i → length to ≡ 2 * length bytes
    → take (2 * i) to ++ hex_text (drop i bytes) ≡ hex_text bytes → to ≡ hex_text bytes
encode_done bytes to i h len inv =
    let d = drop_all i bytes h in
    let a = take_all (2 * i) to (omega arith) in
    rw (d, a, append-nil) at inv

-- ---- digits to bytes

-- bytes before those of a decoded rest
abbrev pub prepend : List ℕ → Option (List ℕ) → Option (List ℕ)
prepend front None = None
prepend front (Some rest) = Some (front ++ rest)

pub prepend-nothing : (rest : Option (List ℕ)) → rest ≡ prepend [] rest
prepend-nothing None = refl
prepend-nothing (Some rest) = refl

-- what is left of the text, at a whole pair
drop-pair : (s : List ℕ) (i : ℕ) → 2 * i + 1 < length s
    → drop (2 * i) s ≡ slice_index s (2 * i) ∷ slice_index s (2 * i + 1) ∷ drop (2 * (i + 1)) s
drop-pair s i fits =
    let a = drop_more s (2 * i) 0 (omega arith) in
    let b = drop_more s (2 * i + 1) 0 (omega arith) in
    let two : 2 * i + 1 + 1 ≡ 2 * (i + 1) = omega arith in
    rw (a, b, two) refl

-- two digits that read, and two that don't
pair-good : (h l : Option ℕ) (rest : Option (List ℕ)) → scaled 16 h + scaled 1 l < 256
    → byte_before h l rest ≡ prepend ((scaled 16 h + scaled 1 l) ∷ []) rest
pair-good None l rest less = absurd (omega (arith, less))
pair-good (Some a) None rest less = absurd (omega (arith, less))
pair-good (Some a) (Some b) None less = refl
pair-good (Some a) (Some b) (Some bytes) less =
    let e : 16 * a + b ≡ 16 * a + 1 * b = omega arith in
    ap (λ n. Some (n ∷ bytes)) e

pair-bad : (h l : Option ℕ) (rest : Option (List ℕ)) → ((a : ℕ) → h ≡ Some a → a < 16)
    → ((b : ℕ) → l ≡ Some b → b < 16) → 256 ≤ scaled 16 h + scaled 1 l → byte_before h l rest ≡ None
pair-bad None l rest high low more = refl
pair-bad (Some a) None rest high low more = refl
pair-bad (Some a) (Some b) rest high low more =
    let x = high a refl in let y = low b refl in absurd (omega (arith, x, y, more))

-- a digit is below sixteen
value-below : (c a : ℕ) → hex_value c ≡ Some a → a < 16
value-below c a h = grind (arith, nat_tests, h)

-- bytes move to the front
prepend-more : (front : List ℕ) (v : ℕ) (rest : Option (List ℕ))
    → prepend front (prepend (v ∷ []) rest) ≡ prepend (front ++ v ∷ []) rest
prepend-more front v None = refl
prepend-more front v (Some rest) = ap Some (sym (append_assoc front (v ∷ []) rest))

-- one byte more is read
pub decode_step : (word to : List ℕ) (i v : ℕ) → i < length to → length word ≡ 2 * length to → v < 256
    → v ≡ scaled 16 (hex_value (slice_index word (2 * i))) + scaled 1 (hex_value (slice_index word (2 * i + 1)))
    → hex_bytes word ≡ prepend (take i to) (hex_bytes (drop (2 * i) word))
    → hex_bytes word ≡ prepend (take (i + 1) (slice_set to i v)) (hex_bytes (drop (2 * (i + 1)) word))
decode_step word to i v h len less is inv =
    let c = hex_value (slice_index word (2 * i)) in
    let d = hex_value (slice_index word (2 * i + 1)) in
    let rest = hex_bytes (drop (2 * (i + 1)) word) in
    let pair = ap hex_bytes (drop-pair word i (omega (arith, h, len))) in
    let good = pair-good c d rest (subst (λ n. n < 256) is less) in
    let more = take_more_set to i v h in
    inv ∙ ap (prepend (take i to)) (pair ∙ good ∙ ap (λ n. prepend (n ∷ []) rest) (sym is))
    ∙ prepend-more (take i to) v rest ∙ ap (λ xs. prepend xs rest) (sym more)

-- a pair that doesn't read
pub decode_stop : (word to : List ℕ) (i v : ℕ) → i < length to → length word ≡ 2 * length to → 255 < v
    → v ≡ scaled 16 (hex_value (slice_index word (2 * i))) + scaled 1 (hex_value (slice_index word (2 * i + 1)))
    → hex_bytes word ≡ prepend (take i to) (hex_bytes (drop (2 * i) word))
    → None ≡ hex_bytes word
decode_stop word to i v h len more is inv =
    let c = hex_value (slice_index word (2 * i)) in
    let d = hex_value (slice_index word (2 * i + 1)) in
    let rest = hex_bytes (drop (2 * (i + 1)) word) in
    let pair = ap hex_bytes (drop-pair word i (omega (arith, h, len))) in
    let bad = pair-bad c d rest (value-below (slice_index word (2 * i))) (value-below (slice_index word (2 * i + 1)))
    (omega (arith, is, more)) in
    sym (inv ∙ ap (prepend (take i to)) (pair ∙ bad))

-- all bytes are read
pub decode_done : (word to : List ℕ) (i : ℕ) → length to ≤ i → length word ≡ 2 * length to
    → hex_bytes word ≡ prepend (take i to) (hex_bytes (drop (2 * i) word)) → Some to ≡ hex_bytes word
decode_done word to i h len inv =
    let d = drop_all (2 * i) word (omega (arith, h, len)) in
    let a = take_all i to h in
    let e : prepend (take i to) (hex_bytes (drop (2 * i) word)) ≡ Some to = rw (d, a, append-nil) refl in
    sym (inv ∙ e)
