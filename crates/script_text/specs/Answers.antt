-- How the answers of `parse_line` stand for what the definitions say of a line.
use Rattle.std.specs.Prelude.{◌≡◌, ℕ, ◌<◌, ◌≤◌, ⊤, List, Result, Ok, Err}
use Rattle.script_model.specs.Bare.{event_with}
use Rattle.script_model.specs.Script as script
use Rattle.script_text.specs.declared.parse.Entry.{Entry}
use Rattle.script_text.specs.declared.parse.Entry.TheVariants.{Blank, Frames, Patience, Grant, Boot}
use Rattle.script_text.specs.declared.parse.Entry.TheVariants.{Happens, Image, Raw}
use Rattle.script_text.specs.declared.parse.ScriptFault.{ScriptFault}
use Rattle.script_text.specs.declared.parse.ScriptFault.TheVariants.{BadWord, BadNumber, WrongPlace, UnknownCommand}

-- an entry with the bytes of its call, as the definitions have it
abbrev pub entry_seen : Entry → (bytes : List ℕ) → script.Entry
entry_seen Blank bytes = script.Blank
entry_seen (Frames n) bytes = script.Frames n
entry_seen (Patience kind n) bytes = script.Patience kind n
entry_seen (Grant n) bytes = script.Grant n
entry_seen Boot bytes = script.Boot
entry_seen (Happens event) bytes = script.Happens (event_with event bytes)
entry_seen (Image slot loaded) bytes = script.Loads slot loaded
entry_seen Raw bytes = script.Raw

-- a refusal is what the definitions say
abbrev pub Refuses : ScriptFault → Result script.Entry script.ScriptFault → Type 0
Refuses BadWord said = said ≡ Err script.BadWord
Refuses BadNumber said = said ≡ Err script.BadNumber
Refuses WrongPlace said = said ≡ Err script.WrongPlace
Refuses UnknownCommand said = said ≡ Err script.UnknownCommand

-- an answer, with the bytes of its call, is what the definitions say
abbrev pub IsParsed : Result Entry ScriptFault → (bytes : List ℕ) →
    Result script.Entry script.ScriptFault → Type 0
IsParsed (Ok entry) bytes said = said ≡ Ok (entry_seen entry bytes)
IsParsed (Err fault) bytes said = Refuses fault said

-- what a set-up line sets is within its limits
abbrev pub SetsWithin : Result Entry ScriptFault → Type 0
SetsWithin (Ok (Frames n)) = (2 ≤ n) × (n ≤ 64)
SetsWithin (Ok (Patience kind n)) = kind < 8
SetsWithin _ = ⊤

-- what was said: the entry that stands where it was lent, or a refusal
abbrev pub with_entry : {T : Type 0} → Result T ScriptFault → Entry → Result Entry ScriptFault
with_entry (Ok _) entry = Ok entry
with_entry (Err fault) entry = Err fault
