-- The codes and their texts.
use Rattle.std.specs.Prelude.{ℕ, List, Option, find, codes}
use Rattle.script_model.specs.World.{same_bytes}
use Rattle.script_model.specs.Filters.{asm_kind_text, lang_kind_text}
use Rattle.lab_codes.specs.declared.code.Code.{Code}
use Rattle.lab_codes.specs.declared.code.Code.TheVariants as code
use Rattle.lab_codes.specs.declared.code.TheConstants.{CODES}
use Rattle.lab_codes.specs.declared.code.ScriptCode.{ScriptCode}
use Rattle.lab_codes.specs.declared.code.ScriptCode.TheVariants as script
use Rattle.lab_codes.specs.declared.code.CallCode.{CallCode}
use Rattle.lab_codes.specs.declared.code.CallCode.TheVariants as call
use Rattle.lab_codes.specs.declared.code.DropCode.{DropCode}
use Rattle.lab_codes.specs.declared.code.DropCode.TheVariants as drop
use Rattle.lab_codes.specs.declared.code.ImageCode.{ImageCode}
use Rattle.lab_codes.specs.declared.code.ImageCode.TheVariants as image
use Rattle.lab_codes.specs.declared.code.RewriterCode.{RewriterCode}
use Rattle.lab_codes.specs.declared.code.RewriterCode.TheVariants as rewriter
use Rattle.lab_codes.specs.declared.code.InputCode.{InputCode}
use Rattle.lab_codes.specs.declared.code.InputCode.TheVariants as input
use Rattle.lab_codes.specs.declared.code.StatusCode.{StatusCode}
use Rattle.lab_codes.specs.declared.code.StatusCode.TheVariants as status

-- refused lines of a script
abbrev pub script_text : ScriptCode → List ℕ
script_text script.BadWord = codes "S1"
script_text script.BadNumber = codes "S2"
script_text script.TooLong = codes "S3"
script_text script.WrongPlace = codes "S4"
script_text script.UnknownCommand = codes "S5"
script_text script.Unfinished = codes "S6"

-- refused calls
abbrev pub call_text : CallCode → List ℕ
call_text call.NoProcess = codes "E1"
call_text call.Busy = codes "E2"
call_text call.Denied = codes "E3"
call_text call.BadPoint = codes "E4"
call_text call.BadDescriptor = codes "E5"
call_text call.NoFile = codes "E6"
call_text call.NoDescriptor = codes "E7"
call_text call.BadIndex = codes "E8"
call_text call.NoImage = codes "E9"
call_text call.Taken = codes "E10"
call_text call.NoGraft = codes "E11"
call_text call.Short = codes "E12"
call_text call.Full = codes "E13"
call_text call.Held = codes "E14"
call_text call.NotHeld = codes "E15"
call_text call.DiskFault = codes "E16"
call_text call.TimedOut = codes "E17"
call_text call.PortFull = codes "E18"

-- dropped grafts
abbrev pub drop_text : DropCode → List ℕ
drop_text drop.DivideByZero = codes "C1"
drop_text drop.Trap = codes "C2"
drop_text drop.NotCallable = codes "C3"
drop_text drop.BadArgument = codes "C4"
drop_text drop.NotYours = codes "C5"
drop_text drop.NotAllowed = codes "C6"
drop_text drop.TooDeep = codes "C7"
drop_text drop.Reentered = codes "C8"
drop_text drop.SpentSteps = codes "C9"
drop_text drop.SpentRecords = codes "C10"
drop_text drop.SpentLocks = codes "C11"
drop_text drop.RefusedAnswer = codes "C12"
drop_text drop.TimeOut = codes "C13"

-- refused images
abbrev pub image_text : ImageCode → List ℕ
image_text image.Length = codes "L1"
image_text image.Start = codes "L2"
image_text image.Version = codes "L3"
image_text image.TooLarge = codes "L4"
image_text image.Seal = codes "L5"
image_text image.BadInstruction = codes "L6"
image_text image.Register = codes "L7"
image_text image.Jump = codes "L8"
image_text image.Access = codes "L9"
image_text image.DirectCall = codes "L10"
image_text image.End = codes "L11"
image_text image.BadFlags = codes "L12"
image_text image.NoKey = codes "L13"

-- raw code that can't be boxed
abbrev pub rewriter_text : RewriterCode → List ℕ
rewriter_text rewriter.Register = codes "Register"
rewriter_text rewriter.Jump = codes "Jump"
rewriter_text rewriter.Call = codes "Call"
rewriter_text rewriter.End = codes "End"
rewriter_text rewriter.TooLarge = codes "TooLarge"

-- refused input of `box`, `check`, `reseal`, `dis` and `audit`
abbrev pub input_text : InputCode → List ℕ
input_text input.GoesOn = codes "input S1"
input_text input.NotHex = codes "input S2"
input_text input.Unfinished = codes "input S6"

-- how a program ends
abbrev pub status_text : StatusCode → List ℕ
status_text status.Well = codes "status 0"
status_text status.BadWords = codes "status 1"
status_text status.Refused = codes "status 2"
status_text status.ReadFailed = codes "status 3"
status_text status.WriteFailed = codes "status 4"
status_text status.NoMemory = codes "status 5"
status_text status.ImageRefused = codes "status 6"
status_text status.TooLong = codes "status 7"
status_text status.Differs = codes "status 8"

-- the text of a code, as it is written
abbrev pub code_text : Code → List ℕ
code_text (code.Script c) = script_text c
code_text (code.Call c) = call_text c
code_text (code.Drop c) = drop_text c
code_text (code.Image c) = image_text c
code_text (code.Assembler c) = asm_kind_text c
code_text (code.Language c) = lang_kind_text c
code_text (code.Rewriter c) = rewriter_text c
code_text (code.Input c) = input_text c
code_text (code.Status c) = status_text c

-- the code of a text
abbrev pub code_named : List ℕ → Option Code
code_named text = find (λ c. same_bytes (code_text c) text) CODES
