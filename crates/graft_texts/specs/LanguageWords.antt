-- The words of a text: what is between spaces and newlines.
use Rattle.std.specs.Prelude.{ℕ, suc, ◌+◌, ◌-◌, ◌==◌, List, [], ◌∷◌, ◌++◌, length, take, count_by}
use Rattle.graft_texts.specs.Assembler.{lines_of, words_of}

-- a word, and the line that it is in
pub record Word : Type 0 where
  pub line : ℕ
  pub bytes : List ℕ

-- a word before others, unless it has no bytes
abbrev pub before_words : ℕ → List ℕ → List Word → List Word
before_words line [] words = words
before_words line (b ∷ bytes) words = record { line = line; bytes = b ∷ bytes } ∷ words

-- the words of a line: what is between its spaces
abbrev pub line_words : ℕ → List (List ℕ) → List Word
line_words line [] = []
line_words line (part ∷ parts) = before_words line part (line_words line parts)

-- the words of lines, if the first line has this number
abbrev pub words_from : ℕ → List (List ℕ) → List Word
words_from line [] = []
words_from line (text ∷ texts) = line_words line (words_of text) ++ words_from (suc line) texts

-- the words of a text
abbrev pub words : List ℕ → List Word
words text = words_from 1 (lines_of text)

-- the number of the last line of a text: each newline with bytes after it begins one more
abbrev pub last_line : List ℕ → ℕ
last_line text = count_by (λ b. b == 10) (take (length text - 1) text) + 1
