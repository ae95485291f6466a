-- Where words begin and end in a line, and what becomes of a byte of a line.
use Rattle.std.specs.Prelude.{ℕ, Bool, true, false, cond, ◌≡◌, ◌≤◌, ◌<◌, ◌==◌, get_or, nat_lt, List}
use Rattle.std.specs.Prelude.{[], ◌∷◌, ◌++◌, length, take, is_some, Option, Some, None, Result, Ok}
use Rattle.std.specs.Prelude.{Err}
use Rattle.std.specs.List.{position_or_len}
use Rattle.script_model.specs.Bytes.{hex_value, number_of}
use Rattle.script_model.specs.declared.Form.{Form}
use Rattle.script_model.specs.Script.{ScriptFault, BadWord, BadNumber, words_of, number_said, is_bad_word, LINE_BYTES}
use Rattle.script_model.specs.Outcome.{lines_after, rest_after}
use Rattle.script_text.specs.declared.line_buf.Fed.{Fed}
use Rattle.script_text.specs.declared.line_buf.Fed.TheVariants.{More, Line, TooLong}
use Rattle.script_text.specs.declared.words.Reading.{Reading}
use Rattle.script_text.specs.declared.words.Reading.TheVariants as reading

-- how many bytes the first word of a text has
abbrev pub word_length : List ℕ → ℕ
word_length text = position_or_len (λ byte. byte == 32) text

-- the word that a text begins with
abbrev pub front_word : List ℕ → List ℕ
front_word text = take (word_length text) text

-- the words that stand after a word, each after a space
abbrev pub words_left : List ℕ → List (List ℕ)
words_left [] = []
words_left (space ∷ text) = words_of text

-- what was read of words, with these numbers and this last word
abbrev pub said : Reading → (numbers last : List ℕ) → Result (List ℕ × List ℕ) ScriptFault
said reading.Said numbers last = Ok (numbers, last)
said reading.BadNumber numbers last = Err BadNumber
said reading.BadWord numbers last = Err BadWord

-- the first word of a text has so many bytes, and is a number's digits
pub record IsFirstNumber (text : List ℕ) (n size : ℕ) : Type 0 where
  pub some : 1 ≤ size
  pub within : size ≤ length text
  pub word : size ≡ word_length text
  pub says : number_of (take size text) ≡ Some n

-- the first word of a text has so many bytes, and says this number
pub record SaysFirst (form : Form) (text : List ℕ) (n size : ℕ) : Type 0 where
  pub within : size ≤ length text
  pub word : size ≡ word_length text
  pub good : is_bad_word form (take size text) ≡ false
  pub says : number_said form (take size text) ≡ Some n

-- the refusal of a line with a word that is no number, which is the lesser one
abbrev pub failed : Bool → Result (List ℕ × List ℕ) ScriptFault
failed true = Err BadNumber
failed false = Err BadWord

-- a hex digit of either case
abbrev pub is_hex_digit : ℕ → Bool
is_hex_digit byte = is_some (hex_value byte)

-- bytes, none where there are none
abbrev pub bytes_or_none : Option (List ℕ) → List ℕ
bytes_or_none None = []
bytes_or_none (Some bytes) = bytes

-- what a byte makes of a line: a newline ends it, and beyond its most bytes it is too long
abbrev pub fed : ℕ → List ℕ → Fed
fed byte line = cond (byte == 10) Line (cond (nat_lt (length line) LINE_BYTES) More TooLong)

-- the next line has so many bytes, where none has begun, and stands whole at the front of these
pub record IsWholeLine (line bytes : List ℕ) (n : ℕ) : Type 0 where
  pub fresh : line ≡ []
  pub before : n < length bytes
  pub short : n ≤ LINE_BYTES
  pub ends : get_or bytes n 0 ≡ 10
  pub none : lines_after line (take n bytes) ≡ []
  pub rest : rest_after line (take n bytes) ≡ take n bytes

-- the line after a byte
abbrev pub line_with : ℕ → List ℕ → List ℕ
line_with byte line =
    cond (byte == 10) line (cond (nat_lt (length line) LINE_BYTES) (line ++ byte ∷ []) line)
