-- The syntax of a command: what its line must be like.
use Rattle.std.specs.Prelude.{◌≡◌, ◌≤◌, ℕ, List, length, map, Option, option_map, IfSome}
use Rattle.script_model.specs.declared.Command.{Command}
use Rattle.script_model.specs.Script.{OwnWord, command_word, forms_of, is_setup}
use Rattle.script_text.specs.Words.{word_length}
use Rattle.script_text.specs.declared.commands.OwnWord as code
use Rattle.script_text.specs.declared.commands.Syntax.{Syntax}

-- a word that is added to the fixed ones, as the definitions have it
abbrev pub word_seen : code.OwnWord → OwnWord
word_seen w = record { name = w.name.now; call = w.call }

-- words that are added
abbrev pub words_seen : List code.OwnWord → List OwnWord
words_seen own = map word_seen own

-- the syntax of a command, as the definitions have it
pub record IsSyntax (s : Syntax) : Type 0 where
  pub size : s.size ≡ length (command_word s.command)
  pub forms : s.forms.now ≡ forms_of s.command
  pub few : length s.forms.now ≤ 5
  pub setup : s.sets_up ≡ is_setup s.command

-- what was found is the syntax of the named command, if there is one
pub record FindsSyntax (named : Option Command) (found : Option Syntax) : Type 0 where
  pub is : option_map (λ (s : Syntax). s.command) found ≡ named
  pub syntax : IfSome found (λ (s : Syntax). IsSyntax s)

-- the syntax of a command, whose word is the first of a text, also an added one
pub record IsSyntaxAt (text : List ℕ) (s : Syntax) : Type 0 where
  pub size : s.size ≡ word_length text
  pub forms : s.forms.now ≡ forms_of s.command
  pub few : length s.forms.now ≤ 5
  pub setup : s.sets_up ≡ is_setup s.command

-- what was found is the syntax of the named command, if there is one
pub record FindsSyntaxAt (text : List ℕ) (named : Option Command) (found : Option Syntax) :
    Type 0 where
  pub is : option_map (λ (s : Syntax). s.command) found ≡ named
  pub syntax : IfSome found (λ (s : Syntax). IsSyntaxAt text s)
