-- Which code each refusal and each cause of the kernel has, and that it is found by what is printed.
use Rattle.std.specs.Prelude.{◌≡◌, ℕ, List, ◌++◌, codes, decimal, Some}
use Rattle.script_model.specs.declared.Refusal.{Refusal}
use Rattle.script_model.specs.declared.Refusal.TheVariants as refusal
use Rattle.script_model.specs.declared.Cause.{Cause}
use Rattle.script_model.specs.declared.Cause.TheVariants as cause
use Rattle.script_model.specs.declared.AsmKind.{AsmKind}
use Rattle.script_model.specs.declared.LangKind.{LangKind}
use Rattle.script_model.specs.Script.{ScriptFault, fault_number, words_of, first_word}
use Rattle.script_model.specs.Images.{LoadFault}
use Rattle.script_model.specs.Boxed.{RewriteFault}
use Rattle.script_model.specs.Text.{refusal_text, cause_text}
use Rattle.script_model.specs.ImageTexts.{load_fault_text}
use Rattle.script_model.specs.Filters.{asm_kind_text, lang_kind_text, rewrite_fault_text}
use Rattle.lab_codes.specs.declared.code.Code.{Code}
use Rattle.lab_codes.specs.declared.code.Code.TheVariants as code
use Rattle.lab_codes.specs.declared.code.ScriptCode.{ScriptCode}
use Rattle.lab_codes.specs.declared.code.ScriptCode.TheVariants as script
use Rattle.lab_codes.specs.declared.code.CallCode.{CallCode}
use Rattle.lab_codes.specs.declared.code.CallCode.TheVariants as call
use Rattle.lab_codes.specs.declared.code.DropCode.{DropCode}
use Rattle.lab_codes.specs.declared.code.DropCode.TheVariants as drop
use Rattle.lab_codes.specs.declared.code.ImageCode.{ImageCode}
use Rattle.lab_codes.specs.declared.code.ImageCode.TheVariants as image
use Rattle.lab_codes.specs.declared.code.RewriterCode.{RewriterCode}
use Rattle.lab_codes.specs.declared.code.RewriterCode.TheVariants as rewriter
use Rattle.lab_codes.specs.Codes.{code_text, code_named}

-- the word that a text begins with
abbrev pub code_before : List ℕ → List ℕ
code_before text = first_word (words_of text)

-- the code of a refused line of a script
abbrev pub script_fault_code : ScriptFault → ScriptCode
script_fault_code ScriptFault.BadWord = script.BadWord
script_fault_code ScriptFault.BadNumber = script.BadNumber
script_fault_code ScriptFault.TooLong = script.TooLong
script_fault_code ScriptFault.WrongPlace = script.WrongPlace
script_fault_code ScriptFault.UnknownCommand = script.UnknownCommand
script_fault_code ScriptFault.Unfinished = script.Unfinished

-- the code of a refused call
abbrev pub refusal_code : Refusal → CallCode
refusal_code refusal.NoProcess = call.NoProcess
refusal_code (refusal.Busy m) = call.Busy
refusal_code refusal.Denied = call.Denied
refusal_code refusal.BadPoint = call.BadPoint
refusal_code refusal.BadFd = call.BadDescriptor
refusal_code refusal.NoFile = call.NoFile
refusal_code refusal.NoFd = call.NoDescriptor
refusal_code refusal.BadIndex = call.BadIndex
refusal_code refusal.NoImage = call.NoImage
refusal_code refusal.Taken = call.Taken
refusal_code refusal.NoGraft = call.NoGraft
refusal_code (refusal.Short has) = call.Short
refusal_code refusal.Full = call.Full
refusal_code refusal.Held = call.Held
refusal_code refusal.NotHeld = call.NotHeld
refusal_code refusal.DiskFault = call.DiskFault
refusal_code (refusal.TimedOut o h) = call.TimedOut
refusal_code refusal.PortFull = call.PortFull

-- the code of a dropped graft
abbrev pub cause_code : Cause → DropCode
cause_code cause.DivideByZero = drop.DivideByZero
cause_code (cause.Trap n) = drop.Trap
cause_code (cause.NotCallable id) = drop.NotCallable
cause_code (cause.BadArgument id) = drop.BadArgument
cause_code (cause.NotYours id) = drop.NotYours
cause_code (cause.NotAllowed id) = drop.NotAllowed
cause_code cause.TooDeep = drop.TooDeep
cause_code cause.Reentered = drop.Reentered
cause_code cause.SpentSteps = drop.SpentSteps
cause_code cause.SpentRecords = drop.SpentRecords
cause_code cause.SpentLocks = drop.SpentLocks
cause_code (cause.RefusedAnswer r0 r1) = drop.RefusedAnswer
cause_code (cause.TimeOut o other) = drop.TimeOut

-- the code of a refused image
abbrev pub load_fault_code : LoadFault → ImageCode
load_fault_code LoadFault.Length = image.Length
load_fault_code LoadFault.Magic = image.Start
load_fault_code LoadFault.Version = image.Version
load_fault_code LoadFault.TooLarge = image.TooLarge
load_fault_code LoadFault.Seal = image.Seal
load_fault_code (LoadFault.BadOp pc) = image.BadInstruction
load_fault_code (LoadFault.Register pc) = image.Register
load_fault_code (LoadFault.Jump pc) = image.Jump
load_fault_code (LoadFault.Memory pc) = image.Access
load_fault_code (LoadFault.DirectCall pc) = image.DirectCall
load_fault_code LoadFault.End = image.End
load_fault_code LoadFault.BadFlags = image.BadFlags
load_fault_code LoadFault.NoKey = image.NoKey

-- the code of raw code that can't be boxed
abbrev pub rewrite_fault_code : RewriteFault → RewriterCode
rewrite_fault_code (RewriteFault.NamesReserved pc) = rewriter.Register
rewrite_fault_code (RewriteFault.JumpsOut pc) = rewriter.Jump
rewrite_fault_code (RewriteFault.CallsUnknown pc) = rewriter.Call
rewrite_fault_code RewriteFault.NoEnd = rewriter.End
rewrite_fault_code RewriteFault.TooLong = rewriter.TooLarge

-- each code is found by its own text
abbrev pub CodesAreFound : Type 0
CodesAreFound = (c : Code) → code_named (code_text c) ≡ Some c

-- a refused line of a script: found by what is printed of it
abbrev pub LinesAreFound : Type 0
LinesAreFound =
    (f : ScriptFault) → code_named (codes "S" ++ decimal (fault_number f)) ≡ Some (code.Script (script_fault_code f))

-- a refused call: found by what is printed of it
abbrev pub CallsAreFound : Type 0
CallsAreFound =
    (f : Refusal) → code_named (code_before (refusal_text f)) ≡ Some (code.Call (refusal_code f))

-- a dropped graft: found by what is printed of it
abbrev pub DropsAreFound : Type 0
DropsAreFound =
    (f : Cause) → code_named (code_before (cause_text f)) ≡ Some (code.Drop (cause_code f))

-- a refused image: found by what is printed of it
abbrev pub ImagesAreFound : Type 0
ImagesAreFound =
    (f : LoadFault) → code_named (code_before (load_fault_text f)) ≡ Some (code.Image (load_fault_code f))

-- a refused line of assembler text: found by what is printed of it
abbrev pub AssemblerIsFound : Type 0
AssemblerIsFound =
    (f : AsmKind) → code_named (asm_kind_text f) ≡ Some (code.Assembler f)

-- a refused line of the graft language: found by what is printed of it
abbrev pub LanguageIsFound : Type 0
LanguageIsFound =
    (f : LangKind) → code_named (lang_kind_text f) ≡ Some (code.Language f)

-- raw code that can't be boxed: found by what is printed of it
abbrev pub RewriterIsFound : Type 0
RewriterIsFound =
    (f : RewriteFault) → code_named (code_before (rewrite_fault_text f)) ≡ Some (code.Rewriter (rewrite_fault_code f))
