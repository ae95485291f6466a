-- Words by their places in a text, and the reader's state that keeps them so.
use Rattle.std.specs.Prelude.{◌≡◌, ℕ, ◌==◌, ◌||◌, Bool, List, [], ◌∷◌, map, drop}
use Rattle.std.specs.List.{before_first}
use Rattle.graft_texts.specs.Assembler.{lines_of}
use Rattle.graft_texts.specs.LanguageReading.{arguments, with_name}
use Rattle.graft_texts.specs.LanguageWords.{Word, words_from}
use Rattle.graft_syntax.specs.declared.Token.{Token}
use Rattle.graft_syntax.specs.declared.Token.TheVariants as code
use Rattle.graft_syntax.specs.declared.names.Entry.{Entry}

-- a byte that parts words
abbrev pub is_separator : ℕ → Bool
is_separator b = (b == 10) || (b == 32)

-- the bytes before the first separator
abbrev pub first_word : List ℕ → List ℕ
first_word text = before_first is_separator text

-- the word that begins at a place; it has no bytes at a separator and past the end
abbrev pub word_at : List ℕ → ℕ → List ℕ
word_at text start = first_word (drop start text)

-- a variable is the whole word
abbrev pub IsWord : Token → List ℕ → Type 0
IsWord (code.Variable name) word = name.now ≡ word
IsWord _ word = Unit {0}

-- the words that are left of a text behind a place, which stands in this line
abbrev pub words_behind : List ℕ → (at line : ℕ) → List Word
words_behind text at line = words_from line (lines_of (drop at text))

-- the words with which entries begin
abbrev pub words_at : List ℕ → List Entry → List (List ℕ)
words_at text entries = map (λ (e : Entry). word_at text e.start) entries

-- names, and behind them others that aren't known yet
abbrev pub with_names : List (List ℕ) → List (List ℕ) → List (List ℕ)
with_names known [] = known
with_names known (name ∷ names) = with_names (with_name name known) names

-- the variables that are known where these were assigned
abbrev pub known_names : List ℕ → List Entry → List (List ℕ)
known_names text entries = with_names arguments (words_at text entries)
