-- Text and bytes as JSON has them.
use Rattle.std.specs.Prelude.{ℕ, ◌+◌, ◌-◌, ◌/◌, ◌%◌, ◌==◌, cond, nat_lt, List, [], ◌∷◌, ◌++◌, codes, flat_map}

-- a hex digit of lower case
abbrev pub hex_digit : ℕ → ℕ
hex_digit n = cond (nat_lt n 10) (48 + n) (97 + (n - 10))

-- a byte as two of them
abbrev pub two_digits : ℕ → List ℕ
two_digits byte = hex_digit (byte / 16) ∷ hex_digit (byte % 16) ∷ []

-- A byte of a text in a string: a quotation mark and a backslash behind a backslash, a control sign
-- by its number, and any other as it is.
abbrev pub escaped : ℕ → List ℕ
escaped byte =
    cond (byte == 34) (92 ∷ 34 ∷ [])
    (cond (byte == 92) (92 ∷ 92 ∷ [])
    (cond (nat_lt byte 32) (codes "\\u00" ++ two_digits byte) (byte ∷ [])))

-- a text as a string
abbrev pub quoted : List ℕ → List ℕ
quoted text = (34 ∷ []) ++ flat_map escaped text ++ (34 ∷ [])
