-- Lemmas on whole lines.
use Rattle.std.proofs.Common.{◌≡◌, ◌≤◌, ◌∙◌, ℕ, Bool, false, Option, List, length, drop, ap, arith}
use Rattle.std.proofs.lemmas.Bool.Decides.{nat_tests}
use Rattle.script_model.specs.declared.Command.{Command}
use Rattle.script_model.specs.Script.{words_of, first_word, other_words, OwnWord, command_among}
use Rattle.script_model.specs.Script.{entry_at, is_blank, parsed_line}
use Rattle.script_text.specs.Words.{word_length, front_word, words_left}
use Rattle.script_text.proofs.Reading.{words_of-first}

-- a line by its first word and what follows it
pub entry_at-first : (own : List OwnWord) (booted : Bool) (line : List ℕ) (e : ℕ) → e ≡ word_length line
    → entry_at booted (other_words (words_of line)) (command_among own (first_word (words_of line)))
    ≡ entry_at booted (words_left (drop e line)) (command_among own (front_word line))
entry_at-first own booted line e is =
    rw is (ap (λ words. entry_at booted (other_words words) (command_among own (first_word words)))
    (words_of-first line))

-- a line that isn't blank, by the command of its first word and by what follows it
pub parsed-first : (own : List OwnWord) (booted : Bool) (line : List ℕ) (e : ℕ) (named : Option Command)
    → length line ≤ 65536 → is_blank line ≡ false → e ≡ word_length line → command_among own (front_word line) ≡ named
    → parsed_line own booted line ≡ entry_at booted (words_left (drop e line)) named
parsed-first own booted line e named short some is names =
    let here = entry_at-first own booted line e is ∙ ap (entry_at booted (words_left (drop e line))) names in
    grind (arith, nat_tests, here)
