-- How lines are read whose first word was added to the fixed ones, and all other lines.
use Rattle.std.specs.Prelude.{◌≡◌, ◌≤◌, ◌⊎◌, ◌==◌, ◌&&◌, ℕ, Bool, true, not, List, [], ◌∷◌, ◌++◌}
use Rattle.std.specs.Prelude.{length, is_some, None}
use Rattle.script_model.specs.Script.{OwnWord, own_named, command_named, call_word, words_of}
use Rattle.script_model.specs.Script.{first_word, is_blank, parsed_line, LINE_BYTES}
use Rattle.script_text.specs.Words.{word_length}

-- a name can be a word: it has no space, and it neither is empty nor begins with `#`
abbrev pub is_name : List ℕ → Bool
is_name name = (word_length name == length name) && not (is_blank name)

-- no fixed word and none of these has this name
abbrev pub is_new : List OwnWord → List ℕ → Bool
is_new own name = not (is_some (command_named name)) && not (is_some (own_named own name))

-- these can be words, and they differ from all fixed ones and from each other
abbrev pub are_words : List OwnWord → Bool
are_words [] = true
are_words (w ∷ ws) = is_name w.name && (is_new ws w.name && are_words ws)

-- a word is one of these
abbrev pub IsAmong : OwnWord → List OwnWord → Type 0
IsAmong w [] = ⊥
IsAmong w (v ∷ vs) = (v ≡ w) ⊎ IsAmong w vs

-- nothing stands behind the first word of a line, or a space and whatever follows it
abbrev pub IsBehindWord : List ℕ → Type 0
IsBehindWord rest = word_length rest ≡ 0

-- A line that begins with an added word is read as the line that begins with the word of its call
-- instead, and is refused for the same reason.
abbrev pub ReadAsItsCall : Type 0
ReadAsItsCall =
    (own : List OwnWord) (w : OwnWord) (booted : Bool) (rest : List ℕ)
    → are_words own ≡ true → IsAmong w own → IsBehindWord rest
    → length (w.name ++ rest) ≤ LINE_BYTES → length (call_word w.call ++ rest) ≤ LINE_BYTES
    → parsed_line own booted (w.name ++ rest) ≡ parsed_line [] booted (call_word w.call ++ rest)

-- Every other line is read as without added words: one that begins with a fixed word, whatever
-- words are added, and one whose first word isn't among those that are.
abbrev pub OthersStay : Type 0
OthersStay =
    (own : List OwnWord) (booted : Bool) (text : List ℕ)
    → (is_some (command_named (first_word (words_of text))) ≡ true)
    ⊎ (own_named own (first_word (words_of text)) ≡ None)
    → parsed_line own booted text ≡ parsed_line [] booted text
