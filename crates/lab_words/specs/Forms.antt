-- The forms of the lines that are written, as the words at their places.
use Rattle.std.specs.Prelude.{ℕ, Bool, true, false, ◌&&◌, nat_le, List, [], ◌∷◌, ◌++◌, length}
use Rattle.std.specs.Prelude.{Option, Some, None, is_some, find, position, codes, slice_index_or}
use Rattle.std.specs.Prelude.{◌==◌}
use Rattle.std.specs.List.{list_all, slice_split}
use Rattle.script_model.specs.Bytes.{is_digit, hex_value}
use Rattle.script_model.specs.World.{same_bytes}
use Rattle.script_model.specs.Script.{first_word}
use Rattle.lab_codes.specs.declared.code.Code.{Code}
use Rattle.lab_codes.specs.declared.code.Code.TheVariants as code
use Rattle.lab_codes.specs.declared.code.CallCode.{CallCode}
use Rattle.lab_codes.specs.declared.code.CallCode.TheVariants as call
use Rattle.lab_codes.specs.declared.code.DropCode.{DropCode}
use Rattle.lab_codes.specs.declared.code.DropCode.TheVariants as drop
use Rattle.lab_codes.specs.declared.code.ImageCode.{ImageCode}
use Rattle.lab_codes.specs.declared.code.ImageCode.TheVariants as image
use Rattle.lab_codes.specs.declared.code.RewriterCode.{RewriterCode}
use Rattle.lab_codes.specs.declared.code.RewriterCode.TheVariants as rewriter
use Rattle.lab_codes.specs.declared.code.TheConstants.{CODES}
use Rattle.lab_words.specs.declared.form.Form.{Form}
use Rattle.lab_words.specs.declared.form.Form.TheVariants as form
use Rattle.lab_words.specs.declared.form.TheConstants.{PLAIN_FORMS}
use Rattle.lab_words.specs.declared.slot.Verb.{Verb}
use Rattle.lab_words.specs.declared.slot.Verb.TheVariants as verb
use Rattle.lab_words.specs.declared.slot.Slot.{Slot}
use Rattle.lab_words.specs.declared.slot.Slot.TheVariants.{Number, HexDigits, ObjectName, Said, CodeText}
use Rattle.lab_codes.specs.Codes.{code_text}

-- ---- words of lines

-- 1 to 20 digits
abbrev pub is_number : List ℕ → Bool
is_number word = nat_le 1 (length word) && nat_le (length word) 20 && list_all is_digit word

-- hex digits of either case, one at least
abbrev pub is_hex : List ℕ → Bool
is_hex word = nat_le 1 (length word) && list_all (λ b. is_some (hex_value b)) word

-- the names of objects
abbrev pub object_names : List (List ℕ)
object_names =
    codes "Graft" ∷ codes "Acct" ∷ codes "Cell" ∷ codes "Open" ∷ codes "Queue" ∷ codes "Cache"
    ∷ codes "Lock" ∷ codes "Pol" ∷ []

-- what stands before the first `(`
abbrev pub before_parenthesis : List ℕ → List ℕ
before_parenthesis word = first_word (slice_split (λ b. b == 40) word)

-- a word that begins as an object is written
abbrev pub is_object : List ℕ → Bool
is_object word =
    is_some (position (λ listed. same_bytes (before_parenthesis word) listed) object_names)

-- the text of a word that stands for itself
abbrev pub verb_text : Verb → List ℕ
verb_text verb.Boot = codes "boot"
verb_text verb.Tick = codes "tick"
verb_text verb.Done = codes "ok"
verb_text verb.Data = codes "data"
verb_text verb.Ran = codes "ran"
verb_text verb.Waits = codes "waits"
verb_text verb.Graft = codes "graft"
verb_text verb.Left = codes "left"
verb_text verb.Script = codes "script"
verb_text verb.Drop = codes "drop"
verb_text verb.Asm = codes "asm"
verb_text verb.Lang = codes "lang"

-- a word may stand in a slot
abbrev pub slot_fits : Slot → List ℕ → Bool
slot_fits Number word = is_number word
slot_fits HexDigits word = is_hex word
slot_fits ObjectName word = is_object word
slot_fits (Said v) word = same_bytes (verb_text v) word
slot_fits (CodeText c) word = same_bytes (code_text c) word

-- as many words as slots, and each may stand in its slot
abbrev pub words_fit : List Slot → List (List ℕ) → Bool
words_fit [] [] = true
words_fit [] (w ∷ ws) = false
words_fit (s ∷ ss) [] = false
words_fit (s ∷ ss) (w ∷ ws) = slot_fits s w && words_fit ss ws

-- the second word of a line; nothing where it has one word
abbrev pub second_word : List ℕ → List ℕ
second_word line = slice_index_or (slice_split (λ b. b == 32) line) 1 []

-- the second slot, if there is one, is one for this word
abbrev pub second_fits : List Slot → List ℕ → Bool
second_fits [] word = true
second_fits (s ∷ []) word = true
second_fits (s ∷ t ∷ ss) word = slot_fits t word

-- ---- forms of lines

-- the words before a code, by what it says something of
abbrev pub words_before : Code → List Slot
words_before (code.Script c) = Said verb.Script ∷ Number ∷ []
words_before (code.Call c) = Number ∷ []
words_before (code.Drop c) = Number ∷ Said verb.Drop ∷ Number ∷ Number ∷ []
words_before (code.Image c) = Number ∷ []
words_before (code.Assembler c) = Said verb.Asm ∷ Number ∷ []
words_before (code.Language c) = Said verb.Lang ∷ Number ∷ []
words_before (code.Rewriter c) = []
words_before (code.Input c) = []
words_before (code.Status c) = []

-- the words behind a code: refused calls
abbrev pub behind_call : CallCode → List Slot
behind_call call.NoProcess = []
behind_call call.Busy = Number ∷ []
behind_call call.Denied = []
behind_call call.BadPoint = []
behind_call call.BadDescriptor = []
behind_call call.NoFile = []
behind_call call.NoDescriptor = []
behind_call call.BadIndex = []
behind_call call.NoImage = []
behind_call call.Taken = []
behind_call call.NoGraft = []
behind_call call.Short = Number ∷ []
behind_call call.Full = []
behind_call call.Held = []
behind_call call.NotHeld = []
behind_call call.DiskFault = []
behind_call call.TimedOut = ObjectName ∷ Number ∷ []
behind_call call.PortFull = []

-- the words behind a code: dropped grafts
abbrev pub behind_drop : DropCode → List Slot
behind_drop drop.DivideByZero = []
behind_drop drop.Trap = Number ∷ []
behind_drop drop.NotCallable = Number ∷ []
behind_drop drop.BadArgument = Number ∷ []
behind_drop drop.NotYours = Number ∷ []
behind_drop drop.NotAllowed = Number ∷ []
behind_drop drop.TooDeep = []
behind_drop drop.Reentered = []
behind_drop drop.SpentSteps = []
behind_drop drop.SpentRecords = []
behind_drop drop.SpentLocks = []
behind_drop drop.RefusedAnswer = Number ∷ Number ∷ []
behind_drop drop.TimeOut = ObjectName ∷ Number ∷ []

-- the words behind a code: refused images
abbrev pub behind_image : ImageCode → List Slot
behind_image image.Length = []
behind_image image.Start = []
behind_image image.Version = []
behind_image image.TooLarge = []
behind_image image.Seal = []
behind_image image.BadInstruction = Number ∷ []
behind_image image.Register = Number ∷ []
behind_image image.Jump = Number ∷ []
behind_image image.Access = Number ∷ []
behind_image image.DirectCall = Number ∷ []
behind_image image.End = []
behind_image image.BadFlags = []
behind_image image.NoKey = []

-- the words behind a code: raw code that can't be boxed
abbrev pub behind_rewriter : RewriterCode → List Slot
behind_rewriter rewriter.Register = Number ∷ []
behind_rewriter rewriter.Jump = Number ∷ []
behind_rewriter rewriter.Call = Number ∷ []
behind_rewriter rewriter.End = []
behind_rewriter rewriter.TooLarge = []

-- the words behind a code
abbrev pub words_behind : Code → List Slot
words_behind (code.Call c) = behind_call c
words_behind (code.Drop c) = behind_drop c
words_behind (code.Image c) = behind_image c
words_behind (code.Rewriter c) = behind_rewriter c
words_behind c = []

-- the words of a line of this form
abbrev pub words_of_form : Form → List Slot
words_of_form form.Booted = Number ∷ Said verb.Boot ∷ Number ∷ Number ∷ Number ∷ []
words_of_form form.Ticked = Number ∷ Said verb.Tick ∷ Number ∷ []
words_of_form form.Done = Number ∷ Said verb.Done ∷ []
words_of_form form.Answered = Number ∷ Said verb.Done ∷ Number ∷ []
words_of_form form.Loaded = Number ∷ Said verb.Done ∷ Number ∷ Number ∷ []
words_of_form form.GaveNothing = Number ∷ Said verb.Data ∷ []
words_of_form form.Gave = Number ∷ Said verb.Data ∷ HexDigits ∷ []
words_of_form form.Ran = Number ∷ Said verb.Ran ∷ Number ∷ []
words_of_form form.Waits = Number ∷ Said verb.Waits ∷ ObjectName ∷ Number ∷ []
words_of_form form.InGraft = Number ∷ Said verb.Graft ∷ Number ∷ Number ∷ Number ∷ []
words_of_form form.Left = Said verb.Left ∷ Number ∷ Number ∷ []
words_of_form (form.Coded c) = words_before c ++ CodeText c ∷ words_behind c

-- the words of a line, parted by single spaces
abbrev pub words_of_line : List ℕ → List (List ℕ)
words_of_line line = slice_split (λ b. b == 32) line

-- a line has this form
abbrev pub line_fits : List ℕ → Form → Bool
line_fits line f = words_fit (words_of_form f) (words_of_line line)

-- the form with a code, if there is a code
abbrev pub coded : Option Code → Option Form
coded None = None
coded (Some c) = Some (form.Coded c)

-- a form, or else the other
abbrev pub form_or : Option Form → Option Form → Option Form
form_or (Some f) other = Some f
form_or None other = other

-- the form of a line, if it has one
abbrev pub form_of : List ℕ → Option Form
form_of line =
    form_or (find (line_fits line) PLAIN_FORMS)
    (coded (find (λ c. line_fits line (form.Coded c)) CODES))

-- lines of this form are told in words: not those that say it themselves
abbrev pub form_is_told : Form → Bool
form_is_told form.Ticked = false
form_is_told form.Done = false
form_is_told form.Answered = false
form_is_told form.GaveNothing = false
form_is_told form.Gave = false
form_is_told f = true

-- a line is told in words: it has a form, and one that is told
abbrev pub is_told : Option Form → Bool
is_told None = false
is_told (Some f) = form_is_told f
