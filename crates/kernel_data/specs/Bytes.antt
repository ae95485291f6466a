-- Numbers, hexadecimal digits and names as bytes. Everything that is read or written uses these.
use Rattle.std.specs.Prelude.{ℕ, ◌+◌, ◌-◌, ◌*◌, ◌/◌, ◌%◌, ◌^◌, ◌==◌, Bool, cond, ◌&&◌, ◌||◌, nat_lt}
use Rattle.std.specs.Prelude.{nat_le, List, [], ◌∷◌, length, flat_map, fold, slice_index, Option}
use Rattle.std.specs.Prelude.{None, Some, codes, decimal, false}
use Rattle.std.specs.List.{list_all}

-- the four bytes of a word, the lowest first
abbrev pub word_bytes : ℕ → List ℕ
word_bytes n = n % 256 ∷ n / 256 % 256 ∷ n / 65536 % 256 ∷ n / 16777216 % 256 ∷ []

-- the word whose four bytes begin at this place, the lowest first
abbrev pub word_at : List ℕ → ℕ → ℕ
word_at bytes i =
    slice_index bytes i + 256 * slice_index bytes (i + 1) + 65536 * slice_index bytes
    (i + 2) + 16777216 * slice_index bytes (i + 3)

-- the hex digit of a number below 16
abbrev pub hex_digit : ℕ → ℕ
hex_digit n = slice_index (codes "0123456789abcdef") n

-- bytes as lower-case hex digits, the high digit of each byte first
abbrev pub hex_text : List ℕ → List ℕ
hex_text bytes = flat_map (λ b. hex_digit (b / 16) ∷ hex_digit (b % 16) ∷ []) bytes

-- the value of a hex digit of either case
abbrev pub hex_value : ℕ → Option ℕ
hex_value c =
    cond (nat_le 48 c && nat_lt c 58) (Some (c - 48))
    (cond (nat_le 97 c && nat_lt c 103) (Some (c - 87))
    (cond (nat_le 65 c && nat_lt c 71) (Some (c - 55)) None))

-- the byte of two digits in front of other bytes, if all of them are digits
abbrev pub byte_before : Option ℕ → Option ℕ → Option (List ℕ) → Option (List ℕ)
byte_before (Some high) (Some low) (Some bytes) = Some ((16 * high + low) ∷ bytes)
byte_before _ _ _ = None

-- the bytes that hex digits of either case write, if there is an even number of digits
abbrev pub hex_bytes : List ℕ → Option (List ℕ)
hex_bytes [] = Some []
hex_bytes (c ∷ []) = None
hex_bytes (c ∷ d ∷ text) = byte_before (hex_value c) (hex_value d) (hex_bytes text)

-- the bytes of a text of at least 2 and at most this many hex digits
abbrev pub hex_word : ℕ → List ℕ → Option (List ℕ)
hex_word most text =
    cond (nat_le 2 (length text) && nat_le (length text) most) (hex_bytes text) None

-- a digit: 0 to 9
abbrev pub is_digit : ℕ → Bool
is_digit byte = nat_le 48 byte && nat_lt byte 58

-- a small letter: a to z
abbrev pub is_letter : ℕ → Bool
is_letter byte = nat_le 97 byte && nat_lt byte 123

-- a byte of a name: a to z, 0 to 9, `.`, `_` or `-`
abbrev pub is_name_byte : ℕ → Bool
is_name_byte byte = is_letter byte || is_digit byte || byte == 46 || byte == 95 || byte == 45

-- a byte of a label after its first: a letter, a digit or `_`
abbrev pub is_label_byte : ℕ → Bool
is_label_byte b = is_letter b || is_digit b || b == 95

-- a label: a letter, then letters, digits and `_`, up to 16 bytes
abbrev pub is_label : List ℕ → Bool
is_label [] = false
is_label (c ∷ cs) = is_letter c && nat_le (length cs) 15 && list_all is_label_byte cs

-- the number that decimal digits write
abbrev pub digits_value : List ℕ → ℕ
digits_value bytes = fold (λ n byte. n * 10 + (byte - 48)) 0 bytes

-- the value of a text of 1 to 10 digits, if it is below 2^32
abbrev pub number_of : List ℕ → Option ℕ
number_of text =
    cond (nat_le 1 (length text) && nat_le (length text) 10 && list_all is_digit text
    && nat_lt (digits_value text) (2 ^ 32))
    (Some (digits_value text)) None

-- a space and then a number
abbrev pub spaced : ℕ → List ℕ
spaced n = 32 ∷ decimal n
