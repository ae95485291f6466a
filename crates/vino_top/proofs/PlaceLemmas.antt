-- A line that says `boot` stands before it.
use Rattle.std.proofs.Common.{◌≡◌, ℕ, Bool, true, false, cond, List, [], Option, Some, None}
use Rattle.std.proofs.Common.{Result, Ok, Err, refl, sym, ap, ◌∙◌, length}
use Rattle.std.specs.Prelude.{nat_lt, slice_index}
use Rattle.kernel_data.specs.declared.SysCall.{SysCall}
use Rattle.kernel_data.specs.Bytes.{hex_word}
use Rattle.script_model.specs.declared.Command.{Command}
use Rattle.script_model.specs.declared.Command.TheVariants as command
use Rattle.script_model.specs.Script as script
use Rattle.script_model.specs.Script.{Entry, OwnWord, Boot, ScriptFault, WrongPlace, UnknownCommand}
use Rattle.script_model.specs.Script.{TooLong, IMAGE_DIGITS, LINE_BYTES, is_setup, all_commands}
use Rattle.script_model.specs.Script.{command_word, is_blank, within, loads_by, happens_by}
use Rattle.script_model.specs.Script.{call_of, entry_of, entry_by, entry_at, words_said, forms_of}
use Rattle.script_model.specs.Script.{same_bool, words_of, other_words, first_word, command_among}
use Rattle.script_model.specs.Script.{parsed_line}

-- a line says `boot`
abbrev boots : Result Entry ScriptFault → Bool
boots (Ok Boot) = true
boots _ = false

loads_boots : (slot : ℕ) (bytes : Option (List ℕ)) → boots (loads_by slot bytes) ≡ false
loads_boots slot (Some bytes) = refl
loads_boots slot None = refl

happens_boots : (p : ℕ) (call : Option SysCall) → boots (happens_by p call) ≡ false
happens_boots p (Some call) = refl
happens_boots p None = refl

-- no command that stands after `boot` says it
later_boots : (c : Command) (n : List ℕ) (last : List ℕ) → is_setup c ≡ false → boots (entry_of c n last) ≡ false
later_boots command.Frames n last h = absurd cc
later_boots command.Patience n last h = absurd cc
later_boots command.Grant n last h = absurd cc
later_boots command.Boot n last h = absurd cc
later_boots command.Tick n last h = refl
later_boots command.Step n last h = refl
later_boots command.Raw n last h = refl
later_boots command.Image n last h = loads_boots (slice_index n 0) (hex_word IMAGE_DIGITS last)
later_boots (command.Call name) n last h = happens_boots (slice_index n 0) (call_of name n last)

said_boots : (c : Command) (said : Result (List ℕ × List ℕ) ScriptFault) → is_setup c ≡ false →
    boots (entry_by c said) ≡ false
said_boots c (Err why) h = refl
said_boots c (Ok said) h = later_boots c said.0 said.1 h

placed_boots : (c : Command) (setup : Bool) (said : Result (List ℕ × List ℕ) ScriptFault) → is_setup c ≡ setup →
    boots (elim (same_bool setup true) as (λ _. Result Entry ScriptFault) [
      | true ↦ Err WrongPlace
      | false ↦ entry_by c said
    ]) ≡ false
placed_boots c true said h = refl
placed_boots c false said h = said_boots c said h

command_boots : (words : List (List ℕ)) (o : Option Command) → boots (entry_at true words o) ≡ false
command_boots words None = refl
command_boots words (Some c) = placed_boots c (is_setup c) (words_said [] [] (forms_of c) words) refl

-- after `boot` no line says it
line_boots : (own : List OwnWord) (text : List ℕ) (long blank : Bool) →
    boots (elim long as (λ _. Result Entry ScriptFault) [
      | true ↦ Err TooLong
      | false ↦ elim blank as (λ _. Result Entry ScriptFault) [
        | true ↦ Ok script.Blank
        | false ↦ entry_at true (other_words (words_of text)) (command_among own (first_word (words_of text)))
      ]
    ]) ≡ false
line_boots own text true blank = refl
line_boots own text false true = refl
line_boots own text false false =
    command_boots (other_words (words_of text)) (command_among own (first_word (words_of text)))

-- so a line that says it stands before it
pub boot_is_first : (own : List OwnWord) (booted : Bool) (text : List ℕ) →
    parsed_line own booted text ≡ Ok Boot → booted ≡ false
boot_is_first own false text is = refl
boot_is_first own true text is =
    absurd (contrary
    (sym (line_boots own text (nat_lt LINE_BYTES (length text)) (is_blank text)) ∙ ap boots is))
  where
    contrary : false ≡ true → ⊥
    contrary k = cc
