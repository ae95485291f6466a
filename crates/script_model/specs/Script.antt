-- What a line of a script says, or why it is refused. The crate's code declares the commands and
-- the forms of their words (`Command`, `CallName`, `Form`).
use Rattle.std.specs.Prelude.{ℕ, Bool, true, false, cond, not, ◌&&◌, ◌||◌, ◌==◌, nat_lt, nat_le}
use Rattle.std.specs.Prelude.{List, [], ◌∷◌, ◌++◌, length, slice_index, Option, None, Some, Result}
use Rattle.std.specs.Prelude.{Ok, Err, codes, find, position, option_map}
use Rattle.std.specs.List.{list_all}
use Rattle.kernel_data.specs.declared.Kind.{Kind}
use Rattle.kernel_data.specs.declared.Kind.TheVariants.{Steps, Records, Locks}
use Rattle.kernel_data.specs.declared.SysCall.{SysCall}
use Rattle.kernel_data.specs.declared.SysCall.TheVariants.{OpenName, CloseFd, TakeLock, FreeLock}
use Rattle.kernel_data.specs.declared.SysCall.TheVariants.{Choose, StreamRead, StreamWrite}
use Rattle.kernel_data.specs.declared.Event.{Event}
use Rattle.kernel_data.specs.declared.Event.TheVariants.{Tick, Step, Sys}
use Rattle.script_model.specs.declared.CallName.{CallName}
use Rattle.script_model.specs.declared.Command.{Command}
use Rattle.script_model.specs.declared.Command.TheVariants.{Call}
use Rattle.script_model.specs.declared.Form.{Form}
use Rattle.script_model.specs.declared.Form.TheVariants.{Number, ObjectKind, Amount, Text}
use Rattle.kernel_data.specs.Bytes.{number_of, hex_word, is_name_byte}
use Rattle.kernel_data.specs.World.{same_bytes}

-- what a line says
pub data Entry : Type 0 where
  Blank : Entry
  Frames : ℕ → Entry
  Patience : (kind ticks : ℕ) → Entry
  Grant : ℕ → Entry
  Boot : Entry
  Happens : Event → Entry
  Loads : (slot : ℕ) → List ℕ → Entry
  Raw : Entry

-- why a line is refused, in the order of the codes
pub data ScriptFault : Type 0 where
  BadWord : ScriptFault
  BadNumber : ScriptFault
  TooLong : ScriptFault
  WrongPlace : ScriptFault
  UnknownCommand : ScriptFault
  Unfinished : ScriptFault

-- the S number of a refusal
abbrev pub fault_number : ScriptFault → ℕ
fault_number BadWord = 1
fault_number BadNumber = 2
fault_number TooLong = 3
fault_number WrongPlace = 4
fault_number UnknownCommand = 5
fault_number Unfinished = 6

-- ---- words

-- the words of a line, separated by single spaces, if `word` came before
abbrev pub words_after : List ℕ → List ℕ → List (List ℕ)
words_after word [] = word ∷ []
words_after word (byte ∷ bytes) =
    elim (byte == 32) [
      | true ↦ word ∷ words_after [] bytes
      | false ↦ words_after (word ++ byte ∷ []) bytes
    ]

-- the words of a line, separated by single spaces
abbrev pub words_of : List ℕ → List (List ℕ)
words_of text = words_after [] text

-- the first word of a line
abbrev pub first_word : List (List ℕ) → List ℕ
first_word [] = []
first_word (w ∷ ws) = w

-- the words after the first
abbrev pub other_words : List (List ℕ) → List (List ℕ)
other_words [] = []
other_words (w ∷ ws) = ws

-- the last of these words, or `word` if there are none
abbrev pub last_word : List ℕ → List (List ℕ) → List ℕ
last_word word [] = word
last_word word (w ∷ ws) = last_word w ws

-- a word is empty
abbrev pub is_empty : List ℕ → Bool
is_empty [] = true
is_empty (b ∷ bs) = false

-- ---- what a word says

-- the kinds of objects, in their order
abbrev pub object_kinds : List (List ℕ)
object_kinds =
    codes "graft" ∷ codes "acct" ∷ codes "cell" ∷ codes "open" ∷ codes "queue" ∷ codes "cache"
    ∷ codes "lock" ∷ codes "pol" ∷ []

-- the kinds of amounts
abbrev pub amounts : List (List ℕ)
amounts = codes "steps" ∷ codes "records" ∷ codes "locks" ∷ []

-- the kind of amount at a place in that list
abbrev pub amount_at : ℕ → Kind
amount_at n = cond (n == 0) Steps (cond (n == 1) Records Locks)

-- the number that a word says: a kind says its place in its list; a text says 0, and its command
-- reads it
abbrev pub number_said : Form → List ℕ → Option ℕ
number_said Number word = number_of word
number_said ObjectKind word = position (same_bytes word) object_kinds
number_said Amount word = position (same_bytes word) amounts
number_said Text word = Some 0

-- there is no number
abbrev pub is_none : Option ℕ → Bool
is_none None = true
is_none (Some n) = false

-- a word must be in a list and isn't
abbrev pub is_unlisted : Form → List ℕ → Bool
is_unlisted ObjectKind word = is_none (number_said ObjectKind word)
is_unlisted Amount word = is_none (number_said Amount word)
is_unlisted _ word = false

-- a word is empty, or must be in a list and isn't
abbrev pub is_bad_word : Form → List ℕ → Bool
is_bad_word form word = is_empty word || is_unlisted form word

-- there are as many words as forms, and none of them is bad
abbrev pub is_well_formed : List Form → List (List ℕ) → Bool
is_well_formed [] [] = true
is_well_formed [] (w ∷ ws) = false
is_well_formed (f ∷ fs) [] = false
is_well_formed (f ∷ fs) (w ∷ ws) = not (is_bad_word f w) && is_well_formed fs ws

-- the numbers that words say, after others, if each says one
abbrev pub numbers_after : List ℕ → List Form → List (List ℕ) → Option (List ℕ)
numbers_after ns [] ws = Some ns
numbers_after ns (f ∷ fs) [] = Some ns
numbers_after ns (f ∷ fs) (w ∷ ws) =
    elim (number_said f w) [ None ↦ None | Some n ↦ numbers_after (ns ++ n ∷ []) fs ws ]

-- the numbers and the last word, if all words say numbers
abbrev pub said_by : List ℕ → Option (List ℕ) → Result (List ℕ × List ℕ) ScriptFault
said_by last None = Err BadNumber
said_by last (Some ns) = Ok (ns, last)

-- the numbers that words say, after others, and the last word; or why the words are refused
abbrev pub words_said : List ℕ → List ℕ → List Form → List (List ℕ) →
    Result (List ℕ × List ℕ) ScriptFault
words_said ns last forms words =
    elim (is_well_formed forms words) [
      | false ↦ Err BadWord
      | true ↦ said_by (last_word last words) (numbers_after ns forms words)
    ]

-- 1 to 16 bytes of a name
abbrev pub is_file_name : List ℕ → Bool
is_file_name text = nat_le 1 (length text) && nat_le (length text) 16 && list_all is_name_byte text

-- a name
abbrev pub name_word : List ℕ → Option (List ℕ)
name_word text = cond (is_file_name text) (Some text) None

-- the most hex digits of a `write`, a `swrite` or a `serve`, which carry at most one block
abbrev pub WRITE_DIGITS : ℕ
WRITE_DIGITS = 1024

-- the most hex digits of an `image`
abbrev pub IMAGE_DIGITS : ℕ
IMAGE_DIGITS = 65534

-- ---- commands

-- the word of a system call
abbrev pub call_word : CallName → List ℕ
call_word CallName.Spawn = codes "spawn"
call_word CallName.Exit = codes "exit"
call_word CallName.Yield = codes "yield"
call_word CallName.Sync = codes "sync"
call_word CallName.Open = codes "open"
call_word CallName.Close = codes "close"
call_word CallName.Read = codes "read"
call_word CallName.Write = codes "write"
call_word CallName.Lock = codes "lock"
call_word CallName.Unlock = codes "unlock"
call_word CallName.Poke = codes "poke"
call_word CallName.Peek = codes "peek"
call_word CallName.Tune = codes "tune"
call_word CallName.Default = codes "default"
call_word CallName.Give = codes "give"
call_word CallName.Install = codes "install"
call_word CallName.Remove = codes "remove"
call_word CallName.Fund = codes "fund"
call_word CallName.Bill = codes "bill"
call_word CallName.Serve = codes "serve"
call_word CallName.StreamRead = codes "sread"
call_word CallName.StreamWrite = codes "swrite"

-- the word of a command
abbrev pub command_word : Command → List ℕ
command_word Command.Frames = codes "frames"
command_word Command.Patience = codes "patience"
command_word Command.Grant = codes "grant"
command_word Command.Boot = codes "boot"
command_word Command.Tick = codes "tick"
command_word Command.Step = codes "step"
command_word Command.Raw = codes "raw"
command_word Command.Image = codes "image"
command_word (Call name) = call_word name

-- all commands
abbrev pub all_commands : List Command
all_commands =
    Command.Frames ∷ Command.Patience ∷ Command.Grant ∷ Command.Boot ∷ Command.Tick ∷ Command.Step
    ∷ Command.Raw ∷ Command.Image
    ∷ Call CallName.Spawn ∷ Call CallName.Exit ∷ Call CallName.Yield ∷ Call CallName.Sync
    ∷ Call CallName.Open ∷ Call CallName.Close
    ∷ Call CallName.Read ∷ Call CallName.Write ∷ Call CallName.Lock ∷ Call CallName.Unlock
    ∷ Call CallName.Poke ∷ Call CallName.Peek
    ∷ Call CallName.Tune ∷ Call CallName.Default ∷ Call CallName.Give ∷ Call CallName.Install
    ∷ Call CallName.Remove ∷ Call CallName.Fund
    ∷ Call CallName.Bill ∷ Call CallName.Serve ∷ Call CallName.StreamRead
    ∷ Call CallName.StreamWrite ∷ []

-- a command belongs before `boot`
abbrev pub is_setup : Command → Bool
is_setup Command.Frames = true
is_setup Command.Patience = true
is_setup Command.Grant = true
is_setup Command.Boot = true
is_setup _ = false

-- the forms of the words of a system call after that of the process
abbrev pub call_forms : CallName → List Form
call_forms CallName.Spawn = []
call_forms CallName.Exit = []
call_forms CallName.Yield = []
call_forms CallName.Sync = []
call_forms CallName.Open = Text ∷ []
call_forms CallName.Close = Number ∷ []
call_forms CallName.Read = Number ∷ Number ∷ Number ∷ Number ∷ []
call_forms CallName.Write = Number ∷ Number ∷ Number ∷ Text ∷ []
call_forms CallName.Lock = Number ∷ []
call_forms CallName.Unlock = Number ∷ []
call_forms CallName.Poke = Number ∷ Number ∷ []
call_forms CallName.Peek = Number ∷ []
call_forms CallName.Tune = Number ∷ Number ∷ Number ∷ []
call_forms CallName.Default = Number ∷ Number ∷ []
call_forms CallName.Give = Number ∷ Amount ∷ Number ∷ []
call_forms CallName.Install = Number ∷ Number ∷ Number ∷ []
call_forms CallName.Remove = Number ∷ []
call_forms CallName.Fund = Number ∷ Amount ∷ Number ∷ []
call_forms CallName.Bill = Number ∷ []
call_forms CallName.Serve = Number ∷ Text ∷ []
call_forms CallName.StreamRead = Number ∷ Number ∷ Number ∷ Number ∷ []
call_forms CallName.StreamWrite = Number ∷ Number ∷ Number ∷ Text ∷ []

-- the forms of the words after the command's own; a system call begins with its process
abbrev pub forms_of : Command → List Form
forms_of Command.Frames = Number ∷ []
forms_of Command.Patience = ObjectKind ∷ Number ∷ []
forms_of Command.Grant = Number ∷ []
forms_of Command.Boot = []
forms_of Command.Tick = []
forms_of Command.Step = Number ∷ Number ∷ []
forms_of Command.Raw = []
forms_of Command.Image = Number ∷ Text ∷ []
forms_of (Call name) = Number ∷ call_forms name

-- the file that `open` names
abbrev pub open_by : Option (List ℕ) → Option SysCall
open_by None = None
open_by (Some name) = Some (OpenName name)

-- the bytes that `write` puts into block i of a file, from offset off
abbrev pub write_by : (fd i off : ℕ) → Option (List ℕ) → Option SysCall
write_by fd i off None = None
write_by fd i off (Some bytes) = Some (SysCall.Write fd i off bytes)

-- the bytes that `serve` hands to the handlers of a port
abbrev pub serve_by : ℕ → Option (List ℕ) → Option SysCall
serve_by port None = None
serve_by port (Some bytes) = Some (SysCall.Serve port bytes)

-- the bytes that `swrite` hands to the point of stream writes
abbrev pub stream_write_by : (fd i off : ℕ) → Option (List ℕ) → Option SysCall
stream_write_by fd i off None = None
stream_write_by fd i off (Some bytes) = Some (StreamWrite fd i off bytes)

-- a system call by the numbers of its words (the first is the process) and by its last word
abbrev pub call_of : CallName → List ℕ → List ℕ → Option SysCall
call_of CallName.Spawn n last = Some SysCall.Spawn
call_of CallName.Exit n last = Some SysCall.Exit
call_of CallName.Yield n last = Some SysCall.Yield
call_of CallName.Sync n last = Some SysCall.Sync
call_of CallName.Open n last = open_by (name_word last)
call_of CallName.Close n last = Some (CloseFd (slice_index n 1))
call_of CallName.Read n last =
    Some (SysCall.Read (slice_index n 1) (slice_index n 2) (slice_index n 3) (slice_index n 4))
call_of CallName.Write n last =
    write_by (slice_index n 1) (slice_index n 2) (slice_index n 3) (hex_word WRITE_DIGITS last)
call_of CallName.Lock n last = Some (TakeLock (slice_index n 1))
call_of CallName.Unlock n last = Some (FreeLock (slice_index n 1))
call_of CallName.Poke n last = Some (SysCall.Poke (slice_index n 1) (slice_index n 2))
call_of CallName.Peek n last = Some (SysCall.Peek (slice_index n 1))
call_of CallName.Tune n last =
    Some (SysCall.Tune (slice_index n 1) (slice_index n 2) (slice_index n 3))
call_of CallName.Default n last = Some (Choose (slice_index n 1) (slice_index n 2))
call_of CallName.Give n last =
    Some (SysCall.Give (slice_index n 1) (amount_at (slice_index n 2)) (slice_index n 3))
call_of CallName.Install n last =
    Some (SysCall.Install (slice_index n 1) (slice_index n 2) (slice_index n 3))
call_of CallName.Remove n last = Some (SysCall.Remove (slice_index n 1))
call_of CallName.Fund n last =
    Some (SysCall.Fund (slice_index n 1) (amount_at (slice_index n 2)) (slice_index n 3))
call_of CallName.Bill n last = Some (SysCall.Bill (slice_index n 1))
call_of CallName.Serve n last = serve_by (slice_index n 1) (hex_word WRITE_DIGITS last)
call_of CallName.StreamRead n last =
    Some (StreamRead (slice_index n 1) (slice_index n 2) (slice_index n 3) (slice_index n 4))
call_of CallName.StreamWrite n last =
    stream_write_by (slice_index n 1) (slice_index n 2) (slice_index n 3)
    (hex_word WRITE_DIGITS last)

-- a system call of process p
abbrev pub happens_by : ℕ → Option SysCall → Result Entry ScriptFault
happens_by p None = Err BadNumber
happens_by p (Some call) = Ok (Happens (Sys p call))

-- an image for a slot
abbrev pub loads_by : ℕ → Option (List ℕ) → Result Entry ScriptFault
loads_by slot None = Err BadNumber
loads_by slot (Some bytes) = Ok (Loads slot bytes)

-- an entry if its number is within bounds, otherwise a bad number
abbrev pub within : (low high n : ℕ) → Entry → Result Entry ScriptFault
within low high n entry = cond (nat_le low n && nat_le n high) (Ok entry) (Err BadNumber)

-- a command by the numbers of its words and by its last word
abbrev pub entry_of : Command → List ℕ → List ℕ → Result Entry ScriptFault
entry_of Command.Frames n last = within 2 64 (slice_index n 0) (Frames (slice_index n 0))
entry_of Command.Patience n last =
    within 1 1000 (slice_index n 1) (Patience (slice_index n 0) (slice_index n 1))
entry_of Command.Grant n last = Ok (Grant (slice_index n 0))
entry_of Command.Boot n last = Ok Boot
entry_of Command.Tick n last = Ok (Happens Tick)
entry_of Command.Step n last = Ok (Happens (Step (slice_index n 0) (slice_index n 1)))
entry_of Command.Raw n last = Ok Raw
entry_of Command.Image n last = loads_by (slice_index n 0) (hex_word IMAGE_DIGITS last)
entry_of (Call name) n last = happens_by (slice_index n 0) (call_of name n last)

-- the command of a fixed word
abbrev pub command_named : List ℕ → Option Command
command_named word = find (λ c. same_bytes (command_word c) word) all_commands

-- a word that a kernel designer adds to the fixed ones: its name, and the call that it makes. Its
-- line has the further words of that call.
pub record OwnWord : Type 0 where
  pub name : List ℕ
  pub call : CallName

-- the command of an added word
abbrev pub own_command : OwnWord → Command
own_command w = Call w.call

-- the command of a word among the added ones, of which the first counts
abbrev pub own_named : List OwnWord → List ℕ → Option Command
own_named own word = option_map own_command (find (λ (w : OwnWord). same_bytes w.name word) own)

-- a command, or else that of an added word
abbrev pub or_own : List OwnWord → List ℕ → Option Command → Option Command
or_own own word None = own_named own word
or_own own word (Some c) = Some c

-- the command of a word: a fixed one, or else one that was added
abbrev pub command_among : List OwnWord → List ℕ → Option Command
command_among own word = or_own own word (command_named word)

-- a command by what its words say
abbrev pub entry_by : Command → Result (List ℕ × List ℕ) ScriptFault → Result Entry ScriptFault
entry_by c (Err fault) = Err fault
entry_by c (Ok said) = entry_of c said.0 said.1

-- both are true, or neither is
abbrev pub same_bool : Bool → Bool → Bool
same_bool a b = cond a b (not b)

-- what a line with this command says, by the words after the first, or why it is refused
abbrev pub entry_at : Bool → List (List ℕ) → Option Command → Result Entry ScriptFault
entry_at booted words None = Err UnknownCommand
entry_at booted words (Some c) =
    elim (same_bool (is_setup c) booted) [
      | true ↦ Err WrongPlace
      | false ↦ entry_by c (words_said [] [] (forms_of c) words)
    ]

-- an empty line, or one that begins with `#`
abbrev pub is_blank : List ℕ → Bool
is_blank [] = true
is_blank (byte ∷ bytes) = byte == 35

-- the most bytes of a line before its newline
abbrev pub LINE_BYTES : ℕ
LINE_BYTES = 65536

-- what a line says, with these words added to the fixed ones, before or after `boot`, or why it is
-- refused
abbrev pub parsed_line : List OwnWord → Bool → List ℕ → Result Entry ScriptFault
parsed_line own booted text =
    elim (nat_lt LINE_BYTES (length text)) [
      | true ↦ Err TooLong
      | false ↦ elim (is_blank text) [
        | true ↦ Ok Blank
        | false ↦ let words = words_of text in
            entry_at booted (other_words words) (command_among own (first_word words))
      ]
    ]
