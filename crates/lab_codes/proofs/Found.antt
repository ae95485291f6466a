-- Each code is found by what is printed: the texts are compared one after another.
use Rattle.std.proofs.Common.{refl, lit<}
use Rattle.std.proofs.lemmas.Fmt.{decimal_digit}
use Rattle.script_model.specs.declared.Refusal.TheVariants as refusal
use Rattle.script_model.specs.declared.Cause.TheVariants as cause
use Rattle.script_model.specs.declared.AsmKind.TheVariants as assembler
use Rattle.script_model.specs.declared.LangKind.TheVariants as language
use Rattle.script_model.specs.Script.{ScriptFault}
use Rattle.script_model.specs.Images.{LoadFault}
use Rattle.script_model.specs.Boxed.{RewriteFault}
use Rattle.lab_codes.specs.declared.code.Code.TheVariants as code
use Rattle.lab_codes.specs.declared.code.ScriptCode.TheVariants as script
use Rattle.lab_codes.specs.declared.code.CallCode.TheVariants as call
use Rattle.lab_codes.specs.declared.code.DropCode.TheVariants as drop
use Rattle.lab_codes.specs.declared.code.ImageCode.TheVariants as image
use Rattle.lab_codes.specs.declared.code.RewriterCode.TheVariants as rewriter
use Rattle.lab_codes.specs.declared.code.InputCode.TheVariants as input
use Rattle.lab_codes.specs.declared.code.StatusCode.TheVariants as status
use Rattle.lab_codes.specs.Printed.{CodesAreFound, LinesAreFound, CallsAreFound, DropsAreFound}
use Rattle.lab_codes.specs.Printed.{ImagesAreFound, AssemblerIsFound, LanguageIsFound}
use Rattle.lab_codes.specs.Printed.{RewriterIsFound}

pub script-lines-are-found : LinesAreFound
script-lines-are-found ScriptFault.BadWord = rw (decimal_digit 1 (lit< tt)) refl
script-lines-are-found ScriptFault.BadNumber = rw (decimal_digit 2 (lit< tt)) refl
script-lines-are-found ScriptFault.TooLong = rw (decimal_digit 3 (lit< tt)) refl
script-lines-are-found ScriptFault.WrongPlace = rw (decimal_digit 4 (lit< tt)) refl
script-lines-are-found ScriptFault.UnknownCommand = rw (decimal_digit 5 (lit< tt)) refl
script-lines-are-found ScriptFault.Unfinished = rw (decimal_digit 6 (lit< tt)) refl

pub calls-are-found : CallsAreFound
calls-are-found refusal.NoProcess = refl
calls-are-found (refusal.Busy m) = refl
calls-are-found refusal.Denied = refl
calls-are-found refusal.BadPoint = refl
calls-are-found refusal.BadFd = refl
calls-are-found refusal.NoFile = refl
calls-are-found refusal.NoFd = refl
calls-are-found refusal.BadIndex = refl
calls-are-found refusal.NoImage = refl
calls-are-found refusal.Taken = refl
calls-are-found refusal.NoGraft = refl
calls-are-found (refusal.Short has) = refl
calls-are-found refusal.Full = refl
calls-are-found refusal.Held = refl
calls-are-found refusal.NotHeld = refl
calls-are-found refusal.DiskFault = refl
calls-are-found (refusal.TimedOut o h) = refl
calls-are-found refusal.PortFull = refl

pub drops-are-found : DropsAreFound
drops-are-found cause.DivideByZero = refl
drops-are-found (cause.Trap n) = refl
drops-are-found (cause.NotCallable id) = refl
drops-are-found (cause.BadArgument id) = refl
drops-are-found (cause.NotYours id) = refl
drops-are-found (cause.NotAllowed id) = refl
drops-are-found cause.TooDeep = refl
drops-are-found cause.Reentered = refl
drops-are-found cause.SpentSteps = refl
drops-are-found cause.SpentRecords = refl
drops-are-found cause.SpentLocks = refl
drops-are-found (cause.RefusedAnswer r0 r1) = refl
drops-are-found (cause.TimeOut o other) = refl

pub images-are-found : ImagesAreFound
images-are-found LoadFault.Length = refl
images-are-found LoadFault.Magic = refl
images-are-found LoadFault.Version = refl
images-are-found LoadFault.TooLarge = refl
images-are-found LoadFault.Seal = refl
images-are-found (LoadFault.BadOp pc) = refl
images-are-found (LoadFault.Register pc) = refl
images-are-found (LoadFault.Jump pc) = refl
images-are-found (LoadFault.Memory pc) = refl
images-are-found (LoadFault.DirectCall pc) = refl
images-are-found LoadFault.End = refl
images-are-found LoadFault.BadFlags = refl
images-are-found LoadFault.NoKey = refl

pub assembler-is-found : AssemblerIsFound
assembler-is-found assembler.UnknownMnemonic = refl
assembler-is-found assembler.BadOperands = refl
assembler-is-found assembler.LabelNotSet = refl
assembler-is-found assembler.LabelSetTwice = refl
assembler-is-found assembler.TooManyInstructions = refl
assembler-is-found assembler.BadData = refl

pub language-is-found : LanguageIsFound
language-is-found language.NoToken = refl
language-is-found language.NoProgram = refl
language-is-found language.UnknownVariable = refl
language-is-found language.WrongArguments = refl
language-is-found language.TooDeep = refl
language-is-found language.TooManyTokens = refl

pub rewriter-is-found : RewriterIsFound
rewriter-is-found (RewriteFault.NamesReserved pc) = refl
rewriter-is-found (RewriteFault.JumpsOut pc) = refl
rewriter-is-found (RewriteFault.CallsUnknown pc) = refl
rewriter-is-found RewriteFault.NoEnd = refl
rewriter-is-found RewriteFault.TooLong = refl

pub codes-are-found : CodesAreFound
codes-are-found (code.Script script.BadWord) = refl
codes-are-found (code.Script script.BadNumber) = refl
codes-are-found (code.Script script.TooLong) = refl
codes-are-found (code.Script script.WrongPlace) = refl
codes-are-found (code.Script script.UnknownCommand) = refl
codes-are-found (code.Script script.Unfinished) = refl
codes-are-found (code.Call call.NoProcess) = refl
codes-are-found (code.Call call.Busy) = refl
codes-are-found (code.Call call.Denied) = refl
codes-are-found (code.Call call.BadPoint) = refl
codes-are-found (code.Call call.BadDescriptor) = refl
codes-are-found (code.Call call.NoFile) = refl
codes-are-found (code.Call call.NoDescriptor) = refl
codes-are-found (code.Call call.BadIndex) = refl
codes-are-found (code.Call call.NoImage) = refl
codes-are-found (code.Call call.Taken) = refl
codes-are-found (code.Call call.NoGraft) = refl
codes-are-found (code.Call call.Short) = refl
codes-are-found (code.Call call.Full) = refl
codes-are-found (code.Call call.Held) = refl
codes-are-found (code.Call call.NotHeld) = refl
codes-are-found (code.Call call.DiskFault) = refl
codes-are-found (code.Call call.TimedOut) = refl
codes-are-found (code.Call call.PortFull) = refl
codes-are-found (code.Drop drop.DivideByZero) = refl
codes-are-found (code.Drop drop.Trap) = refl
codes-are-found (code.Drop drop.NotCallable) = refl
codes-are-found (code.Drop drop.BadArgument) = refl
codes-are-found (code.Drop drop.NotYours) = refl
codes-are-found (code.Drop drop.NotAllowed) = refl
codes-are-found (code.Drop drop.TooDeep) = refl
codes-are-found (code.Drop drop.Reentered) = refl
codes-are-found (code.Drop drop.SpentSteps) = refl
codes-are-found (code.Drop drop.SpentRecords) = refl
codes-are-found (code.Drop drop.SpentLocks) = refl
codes-are-found (code.Drop drop.RefusedAnswer) = refl
codes-are-found (code.Drop drop.TimeOut) = refl
codes-are-found (code.Image image.Length) = refl
codes-are-found (code.Image image.Start) = refl
codes-are-found (code.Image image.Version) = refl
codes-are-found (code.Image image.TooLarge) = refl
codes-are-found (code.Image image.Seal) = refl
codes-are-found (code.Image image.BadInstruction) = refl
codes-are-found (code.Image image.Register) = refl
codes-are-found (code.Image image.Jump) = refl
codes-are-found (code.Image image.Access) = refl
codes-are-found (code.Image image.DirectCall) = refl
codes-are-found (code.Image image.End) = refl
codes-are-found (code.Image image.BadFlags) = refl
codes-are-found (code.Image image.NoKey) = refl
codes-are-found (code.Assembler assembler.UnknownMnemonic) = refl
codes-are-found (code.Assembler assembler.BadOperands) = refl
codes-are-found (code.Assembler assembler.LabelNotSet) = refl
codes-are-found (code.Assembler assembler.LabelSetTwice) = refl
codes-are-found (code.Assembler assembler.TooManyInstructions) = refl
codes-are-found (code.Assembler assembler.BadData) = refl
codes-are-found (code.Language language.NoToken) = refl
codes-are-found (code.Language language.NoProgram) = refl
codes-are-found (code.Language language.UnknownVariable) = refl
codes-are-found (code.Language language.WrongArguments) = refl
codes-are-found (code.Language language.TooDeep) = refl
codes-are-found (code.Language language.TooManyTokens) = refl
codes-are-found (code.Rewriter rewriter.Register) = refl
codes-are-found (code.Rewriter rewriter.Jump) = refl
codes-are-found (code.Rewriter rewriter.Call) = refl
codes-are-found (code.Rewriter rewriter.End) = refl
codes-are-found (code.Rewriter rewriter.TooLarge) = refl
codes-are-found (code.Input input.GoesOn) = refl
codes-are-found (code.Input input.NotHex) = refl
codes-are-found (code.Input input.Unfinished) = refl
codes-are-found (code.Status status.Well) = refl
codes-are-found (code.Status status.BadWords) = refl
codes-are-found (code.Status status.Refused) = refl
codes-are-found (code.Status status.ReadFailed) = refl
codes-are-found (code.Status status.WriteFailed) = refl
codes-are-found (code.Status status.NoMemory) = refl
codes-are-found (code.Status status.ImageRefused) = refl
codes-are-found (code.Status status.TooLong) = refl
codes-are-found (code.Status status.Differs) = refl
