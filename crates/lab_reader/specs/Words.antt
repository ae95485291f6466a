-- The words of a line of a lab file.
use Rattle.std.specs.Prelude.{ℕ, ◌+◌, ◌*◌, ◌%◌, ◌==◌, Bool, true, false, cond, not, ◌||◌, nat_lt}
use Rattle.std.specs.Prelude.{is_some, List, [], ◌∷◌, ◌++◌, length, map, take, drop, decimal, codes}
use Rattle.std.specs.Prelude.{Option, None, Some}
use Rattle.std.specs.List.{list_all, slice_split}
use Rattle.script_model.specs.Script.{IMAGE_DIGITS}
use Rattle.script_model.specs.Bytes.{hex_value, number_of}
use Rattle.script_model.specs.World.{same_bytes}
use Rattle.script_model.specs.Assembler.{is_empty}

-- a tab and a carriage return are as good as a space
abbrev pub space_of : ℕ → ℕ
space_of b = cond (b == 9 || b == 13) 32 b

-- a text with spaces for tabs and carriage returns
abbrev pub with_spaces : List ℕ → List ℕ
with_spaces text = map space_of text

-- the parts of a text between spaces, empty ones too
abbrev pub parts_of : List ℕ → List (List ℕ)
parts_of text = slice_split (λ b. b == 32) text

-- a word begins a remark
abbrev pub is_remark : List ℕ → Bool
is_remark [] = false
is_remark (c ∷ cs) = c == 35

-- the full ones among these parts, up to a remark
abbrev pub words_before : List (List ℕ) → List (List ℕ)
words_before [] = []
words_before (w ∷ ws) =
    elim (is_empty w) [
      | true ↦ words_before ws
      | false ↦ elim (is_remark w) [ true ↦ [] | false ↦ w ∷ words_before ws ]
    ]

-- a text with a word behind it, a space between
abbrev pub with_word : List ℕ → List ℕ → List ℕ
with_word text word = cond (is_empty text) word (text ++ 32 ∷ word)

-- a text with these words behind it
abbrev pub joined_after : List ℕ → List (List ℕ) → List ℕ
joined_after text [] = text
joined_after text (w ∷ ws) = joined_after (with_word text w) ws

-- words with one space between two of them
abbrev pub joined : List (List ℕ) → List ℕ
joined words = joined_after [] words

-- what a line says without its remark, one space between two words
abbrev pub code_of : List ℕ → List ℕ
code_of line = joined (words_before (parts_of line))

-- a line that begins with a word, or is empty
abbrev pub starts_with_word : List ℕ → Bool
starts_with_word [] = true
starts_with_word (c ∷ cs) = not (c == 32)

-- the word of a list of one
abbrev pub one_word_of : List (List ℕ) → Option (List ℕ)
one_word_of [] = None
one_word_of (w ∷ []) = Some w
one_word_of (w ∷ v ∷ ws) = None

-- ---- wanted lines

-- the sign before a wanted line
abbrev pub is_sign : List ℕ → Bool
is_sign word = same_bytes word (codes "=")

-- the words before the sign
abbrev pub words_left : List (List ℕ) → List (List ℕ)
words_left [] = []
words_left (w ∷ ws) = elim (is_sign w) [ true ↦ [] | false ↦ w ∷ words_left ws ]

-- what stands behind the sign, if there is one
abbrev pub wanted_in : List (List ℕ) → Option (List ℕ)
wanted_in [] = None
wanted_in (w ∷ ws) = elim (is_sign w) [ true ↦ Some (joined ws) | false ↦ wanted_in ws ]

-- the part of a line that the script says
abbrev pub left_of : List ℕ → List ℕ
left_of code = joined (words_left (parts_of code))

-- the line that is wanted, if there is one
abbrev pub wanted_of : List ℕ → Option (List ℕ)
wanted_of code = wanted_in (parts_of code)

-- ---- numbers in hex

-- the number that hex digits write behind others, if it is below 2^32
abbrev pub hex_after : ℕ → List ℕ → Option ℕ
hex_after n [] = Some n
hex_after n (c ∷ cs) =
    elim (hex_value c) [
      | None ↦ None
      | Some d ↦ elim (nat_lt n 268435456) [ true ↦ hex_after (n * 16 + d) cs | false ↦ None ]
    ]

-- the number of hex digits
abbrev pub hex_digits : List ℕ → Option ℕ
hex_digits digits = cond (is_empty digits) None (hex_after 0 digits)

-- the number of a word `0x2a`
abbrev pub hex_number : List ℕ → Option ℕ
hex_number word = cond (same_bytes (take 2 word) (codes "0x")) (hex_digits (drop 2 word)) None

-- decimal digits, or the word as it stands
abbrev pub decimal_or : List ℕ → Option ℕ → List ℕ
decimal_or word None = word
decimal_or word (Some n) = decimal n

-- a word of an instruction: a number in hex becomes one in decimal
abbrev pub plain_word : List ℕ → List ℕ
plain_word word = decimal_or word (hex_number word)

-- ---- hex digits of bytes

-- a hex digit of either case
abbrev pub is_hex_digit : ℕ → Bool
is_hex_digit c = is_some (hex_value c)

-- hex digits as an image may have them: an even number of them, 2 to 65,534
abbrev pub is_hex : List ℕ → Bool
is_hex text =
    cond (nat_lt (length text) 2 || nat_lt IMAGE_DIGITS (length text) || not (length text % 2 == 0))
    false (list_all is_hex_digit text)

-- ---- lists of numbers

-- the numbers that words say behind others, if each says one
abbrev pub numbers_after : List ℕ → List (List ℕ) → Option (List ℕ)
numbers_after ns [] = Some ns
numbers_after ns (w ∷ ws) =
    elim (number_of w) [ None ↦ None | Some n ↦ numbers_after (ns ++ n ∷ []) ws ]

-- numbers with a comma between two of them
abbrev pub numbers_of : List ℕ → Option (List ℕ)
numbers_of word = numbers_after [] (slice_split (λ b. b == 44) word)
