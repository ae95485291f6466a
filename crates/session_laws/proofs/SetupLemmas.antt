-- A line sets only a number of frames that a kernel can have, and none after boot is another boot.
use Rattle.std.specs.Prelude.{◌≡◌, ℕ, ◌≤◌, nat_le, nat_lt, ◌&&◌, Bool, true, false, cond, List, []}
use Rattle.std.specs.Prelude.{length, Option, Some, None, Result, Ok, Err, slice_index, ⊤}
use Rattle.std.proofs.Common.{arith, refl}
use Rattle.std.proofs.lemmas.Bool.Decides.{nat_tests}
use Rattle.script_model.specs.declared.Command.{Command}
use Rattle.script_model.specs.declared.Command.TheVariants.{Call}
use Rattle.script_model.specs.declared.SysCall.{SysCall}
use Rattle.script_model.specs.Bytes.{hex_word}
use Rattle.script_model.specs.Script.{Entry, Blank, Frames, Patience, Boot, ScriptFault, BadNumber}
use Rattle.script_model.specs.Script.{LINE_BYTES, IMAGE_DIGITS, is_blank, is_setup, same_bool}
use Rattle.script_model.specs.Script.{call_of, words_of, first_word, other_words, command_among}
use Rattle.script_model.specs.Script.{words_said, forms_of, happens_by, loads_by, entry_of}
use Rattle.script_model.specs.Script.{entry_by, entry_at, OwnWord, parsed_line}

-- a number of frames is in its range, and a boot stands before boot
abbrev pub IsRight : (booted : Bool) → Entry → Type 0
IsRight booted (Frames n) = (2 ≤ n) × (n ≤ 64)
IsRight booted Boot = booted ≡ false
IsRight booted e = ⊤

-- and so it is where a line says one
abbrev pub SaysRight : (booted : Bool) → Result Entry ScriptFault → Type 0
SaysRight booted (Err fault) = ⊤
SaysRight booted (Ok e) = IsRight booted e

frames_right : (booted : Bool) (n : ℕ) (b : Bool) → (nat_le 2 n && nat_le n 64) ≡ b →
    SaysRight booted (cond b (Ok (Frames n)) (Err BadNumber))
frames_right booted n true e = (least n e, most n e)
  where
    least : (n : ℕ) → (nat_le 2 n && nat_le n 64) ≡ true → 2 ≤ n
    least n e = grind (arith, nat_tests)

    most : (n : ℕ) → (nat_le 2 n && nat_le n 64) ≡ true → n ≤ 64
    most n e = grind (arith, nat_tests)
frames_right booted n false e = tt

patience_right : (booted : Bool) (kind ticks : ℕ) (b : Bool) →
    SaysRight booted (cond b (Ok (Patience kind ticks)) (Err BadNumber))
patience_right booted kind ticks true = tt
patience_right booted kind ticks false = tt

happens_right : (booted : Bool) (p : ℕ) (x : Option SysCall) → SaysRight booted (happens_by p x)
happens_right booted p None = tt
happens_right booted p (Some call) = tt

loads_right : (booted : Bool) (slot : ℕ) (x : Option (List ℕ)) → SaysRight booted (loads_by slot x)
loads_right booted slot None = tt
loads_right booted slot (Some bytes) = tt

boot_right : (booted : Bool) → same_bool true booted ≡ false → booted ≡ false
boot_right true e = absurd cc
boot_right false e = refl

said_right : (booted : Bool) (c : Command) (said : List ℕ × List ℕ) → same_bool (is_setup c) booted ≡ false →
    SaysRight booted (entry_of c said.0 said.1)
said_right booted Command.Frames said e =
    let n = slice_index said.0 0 in frames_right booted n (nat_le 2 n && nat_le n 64) refl
said_right booted Command.Patience said e =
    let ticks = slice_index said.0 1 in patience_right booted (slice_index said.0 0) ticks
    (nat_le 1 ticks && nat_le ticks 1000)
said_right booted Command.Grant said e = tt
said_right booted Command.Boot said e = boot_right booted e
said_right booted Command.Tick said e = tt
said_right booted Command.Step said e = tt
said_right booted Command.Raw said e = tt
said_right booted Command.Image said e = loads_right booted (slice_index said.0 0) (hex_word IMAGE_DIGITS said.1)
said_right booted (Call name) said e = happens_right booted (slice_index said.0 0) (call_of name said.0 said.1)

entry_right : (booted : Bool) (c : Command) (x : Result (List ℕ × List ℕ) ScriptFault) →
    same_bool (is_setup c) booted ≡ false → SaysRight booted (entry_by c x)
entry_right booted c (Err fault) e = tt
entry_right booted c (Ok said) e = said_right booted c said e

words_right : (booted : Bool) (words : List (List ℕ)) (c : Option Command) →
    SaysRight booted (entry_at booted words c)
words_right booted words None = tt
words_right booted words (Some c) = by_place (same_bool (is_setup c) booted) refl
  where
    by_place : (b : Bool) → same_bool (is_setup c) booted ≡ b →
        SaysRight booted
        (elim b as (λ _. Result Entry ScriptFault) [
          | true ↦ Err ScriptFault.WrongPlace
          | false ↦ entry_by c (words_said [] [] (forms_of c) words)
        ])
    by_place true e = tt
    by_place false e = entry_right booted c (words_said [] [] (forms_of c) words) e

pub line_right : (own : List OwnWord) (booted : Bool) (text : List ℕ) → SaysRight booted (parsed_line own booted text)
line_right own booted text = by_length (nat_lt LINE_BYTES (length text))
  where
    words : List (List ℕ)
    words = words_of text

    by_words : (b : Bool) →
        SaysRight booted
        (elim b as (λ _. Result Entry ScriptFault) [
          | true ↦ Ok Blank
          | false ↦ entry_at booted (other_words words) (command_among own (first_word words))
        ])
    by_words true = tt
    by_words false = words_right booted (other_words words) (command_among own (first_word words))

    by_length : (b : Bool) → SaysRight booted (elim b as (λ _. Result Entry ScriptFault) [
      | true ↦ Err ScriptFault.TooLong
      | false ↦ elim (is_blank text) as (λ _. Result Entry ScriptFault) [
        | true ↦ Ok Blank
        | false ↦ entry_at booted (other_words words) (command_among own (first_word words))
      ]
    ])
    by_length true = tt
    by_length false = by_words (is_blank text)
