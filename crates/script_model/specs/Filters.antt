-- What `box`, `check`, `reseal`, `asm`, `dis`, `lang` and `audit` write about their input, and the
-- status with which they end.
use Rattle.std.specs.Prelude.{◌≡◌, ℕ, ◌==◌, Bool, true, false, List, [], ◌∷◌, ◌++◌, codes, Option}
use Rattle.std.specs.Prelude.{None, Some, Result, Ok, Err}
use Rattle.kernel_data.specs.declared.Instr.{Instr}
use Rattle.kernel_data.specs.Bytes.{hex_text, hex_word}
use Rattle.kernel_data.specs.World.{Image}
use Rattle.graft_code.specs.Boxed.{RewriteFault, NamesReserved, JumpsOut, CallsUnknown, NoEnd, TooLong, rewrite}
use Rattle.graft_code.specs.declared.Keys.{Keys}
use Rattle.graft_code.specs.Images.{LoadFault, raw_image, sealed_under, read_raw, load, reseal}
use Rattle.graft_texts.specs.declared.AsmKind.{AsmKind}
use Rattle.graft_texts.specs.declared.AsmKind.TheVariants.{UnknownMnemonic, BadOperands}
use Rattle.graft_texts.specs.declared.AsmKind.TheVariants.{LabelNotSet, LabelSetTwice}
use Rattle.graft_texts.specs.declared.AsmKind.TheVariants.{TooManyInstructions, BadData}
use Rattle.graft_texts.specs.Assembler.{LineFault, assemble, disassemble}
use Rattle.kernel_data.specs.Bytes.{spaced}
use Rattle.script_model.specs.Text.{line}
use Rattle.graft_code.specs.ImageTexts.{load_fault_text, image_text}
use Rattle.script_model.specs.declared.Verdict.{Verdict}
use Rattle.script_model.specs.declared.Verdict.TheVariants.{Yes, No}
use Rattle.script_model.specs.Outcome.{Ending, End, Fault, Over}
use Rattle.script_model.specs.Audits.{verdict, wanted, parted}
use Rattle.graft_texts.specs.declared.language.LangKind.{LangKind}
use Rattle.graft_texts.specs.declared.language.LangKind.TheVariants.{NoToken, NoProgram}
use Rattle.graft_texts.specs.declared.language.LangKind.TheVariants.{UnknownVariable}
use Rattle.graft_texts.specs.declared.language.LangKind.TheVariants.{WrongArguments, TooDeep}
use Rattle.graft_texts.specs.declared.language.LangKind.TheVariants.{TooManyTokens}
use Rattle.graft_texts.specs.LanguageReading.{Syntax, read}
use Rattle.graft_texts.specs.LanguageReading as language
use Rattle.graft_texts.specs.LanguageImages.{IsCompiled}

-- what to do with the input, and under which keys
pub data Filter : Type 0 where
  Box : Keys → (keep : Bool) → Filter
  Check : Keys → Filter
  Reseal : Keys → Filter
  Asm : Filter
  Dis : Filter
  Lang : Filter
  Audit : Keys → Filter

-- a status, and the bytes that are written
pub record Answer : Type 0 where
  pub status : ℕ
  pub written : List ℕ

-- an answer with this status
abbrev pub answer : ℕ → List ℕ → Answer
answer status written = record { status = status; written = written }

-- what is before the first newline, and what is after it, if there is one
abbrev pub first_line : List ℕ → List ℕ × Option (List ℕ)
first_line [] = ([], None)
first_line (b ∷ bytes) =
    elim (b == 10) [ true ↦ ([], Some bytes) | false ↦ let r = first_line bytes in (b ∷ r.0, r.1) ]

-- the bytes, or the refusal if they aren't hex, have no newline or have more after it
abbrev pub hex_by : Option (List ℕ) → Option (List ℕ) → Result (List ℕ) (List ℕ)
hex_by None rest = Err (codes "input S2")
hex_by (Some bytes) None = Err (codes "input S6")
hex_by (Some bytes) (Some []) = Ok bytes
hex_by (Some bytes) (Some (c ∷ cs)) = Err (codes "input S1")

-- the bytes of one line of hex, or the text that refuses it
abbrev pub hex_line : List ℕ → Result (List ℕ) (List ℕ)
hex_line input = let r = first_line input in hex_by (hex_word 16777214 r.0) r.1

-- why code can't be boxed
abbrev pub rewrite_fault_text : RewriteFault → List ℕ
rewrite_fault_text (NamesReserved pc) = codes "Register" ++ spaced pc
rewrite_fault_text (JumpsOut pc) = codes "Jump" ++ spaced pc
rewrite_fault_text (CallsUnknown pc) = codes "Call" ++ spaced pc
rewrite_fault_text NoEnd = codes "End"
rewrite_fault_text TooLong = codes "TooLarge"

-- an image, sealed under the last key, as hex; or why the code can't be boxed
abbrev pub boxed_answer : Keys → (keep : Bool) → List ℕ → Result (List Instr) RewriteFault → Answer
boxed_answer keys keep body (Err fault) = answer 6 (line (rewrite_fault_text fault))
boxed_answer keys keep body (Ok code) =
    answer 0
    (line (hex_text (sealed_under keys (record { code = code; body = body; keep = keep }))))

-- what `box` answers to a raw image; with `keep` the image keeps the segments of its grafts
abbrev pub box_answer : Keys → (keep : Bool) → Result Image LoadFault → Answer
box_answer keys keep (Err fault) = answer 6 (line (load_fault_text fault))
box_answer keys keep (Ok i) = boxed_answer keys keep i.body (rewrite i.code)

-- the sizes of an image, or the refusal
abbrev pub check_answer : Result Image LoadFault → Answer
check_answer (Err fault) = answer 6 (line (load_fault_text fault))
check_answer (Ok i) = answer 0 (line (image_text i))

-- the image, sealed again, as hex; or the refusal
abbrev pub reseal_answer : Result (List ℕ) LoadFault → Answer
reseal_answer (Err fault) = answer 6 (line (load_fault_text fault))
reseal_answer (Ok bytes) = answer 0 (line (hex_text bytes))

-- the text of an image, or the refusal
abbrev pub dis_answer : Result Image LoadFault → Answer
dis_answer (Err fault) = answer 2 (line (load_fault_text fault))
dis_answer (Ok i) = answer 0 (disassemble i)

-- the code of a refused line
abbrev pub asm_kind_text : AsmKind → List ℕ
asm_kind_text UnknownMnemonic = codes "A1"
asm_kind_text BadOperands = codes "A2"
asm_kind_text LabelNotSet = codes "A3"
asm_kind_text LabelSetTwice = codes "A4"
asm_kind_text TooManyInstructions = codes "A5"
asm_kind_text BadData = codes "A6"

-- the text for a refused line of assembler text
abbrev pub line_fault_text : LineFault → List ℕ
line_fault_text fault = codes "asm" ++ spaced fault.line ++ codes " " ++ asm_kind_text fault.kind

-- a raw image as hex
abbrev pub raw_answer : Image → Answer
raw_answer i = answer 0 (line (hex_text (raw_image i.code i.body)))

-- a raw image as hex, or the refused line
abbrev pub asm_answer : Result Image LineFault → Answer
asm_answer (Err fault) = answer 2 (line (line_fault_text fault))
asm_answer (Ok i) = raw_answer i

-- the answer to the bytes of the input
abbrev pub bytes_answer : Filter → List ℕ → Answer
bytes_answer (Box keys keep) bytes = box_answer keys keep (read_raw bytes)
bytes_answer (Check keys) bytes = check_answer (load keys bytes)
bytes_answer (Reseal keys) bytes = reseal_answer (reseal keys bytes)
bytes_answer Dis bytes = dis_answer (read_raw bytes)
bytes_answer _ bytes = answer 0 []

-- the answer to a line of hex
abbrev pub hex_answer : Filter → Result (List ℕ) (List ℕ) → Answer
hex_answer f (Err text) = answer 2 (line text)
hex_answer f (Ok bytes) = bytes_answer f bytes

-- a verdict: yes, or the number of the first line that differs
abbrev pub verdict_answer : Verdict → Answer
verdict_answer Yes = answer 0 (line (codes "yes"))
verdict_answer (No n) = answer 8 (line (codes "no" ++ spaced n))

-- what `audit` answers to a script and a claim of what it writes, if the input has a line that
-- separates them
abbrev pub audit_answer : Keys → Option (List ℕ × List ℕ) → Answer
audit_answer keys None = answer 2 (line (codes "input S6"))
audit_answer keys (Some parts) = verdict_answer (verdict parts.1 (wanted keys parts.0))

-- the answer to a whole input, of every filter except `lang`
abbrev pub input_answer : Filter → List ℕ → Answer
input_answer Asm input = asm_answer (assemble input)
input_answer (Audit keys) input = audit_answer keys (parted input)
input_answer f input = hex_answer f (hex_line input)

-- the answer if these bytes of the input were taken and reading ended like this
abbrev pub filter_answer : Filter → List ℕ → Ending → Answer
filter_answer f taken End = input_answer f taken
filter_answer f taken Fault = answer 3 []
filter_answer f taken Over = answer 7 []

-- ---- the compiler, which may choose among the images of a text

-- the code of a refusal
abbrev pub lang_kind_text : LangKind → List ℕ
lang_kind_text NoToken = codes "G1"
lang_kind_text NoProgram = codes "G2"
lang_kind_text UnknownVariable = codes "G3"
lang_kind_text WrongArguments = codes "G4"
lang_kind_text TooDeep = codes "G5"
lang_kind_text TooManyTokens = codes "G6"

-- the text for a refused line of the graft language
abbrev pub lang_fault_text : language.LineFault → List ℕ
lang_fault_text fault = codes "lang" ++ spaced fault.line ++ codes " " ++ lang_kind_text fault.kind

-- the refusal of a line
abbrev pub lang_refusal : language.LineFault → Answer
lang_refusal fault = answer 2 (line (lang_fault_text fault))

-- the hex of an image of this text
pub record WritesImageOf (text : List ℕ) (a : Answer) : Type 0 where
  pub image : Image
  pub is_compiled : IsCompiled text image
  pub is_written : a ≡ raw_answer image

-- an answer of `lang` to a text with this result of reading it: the refusal, or an image of the
-- text
abbrev pub AnswersText : (text : List ℕ) → Result Syntax language.LineFault → Answer → Type 0
AnswersText text (Err fault) a = a ≡ lang_refusal fault
AnswersText text (Ok syntax) a = WritesImageOf text a

-- an answer if these bytes of the input were taken and reading ended like this
abbrev pub IsFilterAnswer : Filter → List ℕ → Ending → Answer → Type 0
IsFilterAnswer Lang taken End a = AnswersText taken (read taken) a
IsFilterAnswer f taken ending a = a ≡ filter_answer f taken ending
