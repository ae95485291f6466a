-- The assembler: the text of graft code, in both directions. The crate's code declares why a line
-- is refused (`AsmKind`).
use Rattle.std.specs.Prelude.{ℕ, suc, ◌+◌, ◌-◌, ◌==◌, Bool, true, false, cond, ◌&&◌, ◌||◌, nat_lt}
use Rattle.std.specs.Prelude.{nat_le, List, [], ◌∷◌, ◌++◌, length, take, slice_get, slice_index}
use Rattle.std.specs.Prelude.{position, flat_map, codes, decimal, Option, None, Some, Result, Ok}
use Rattle.std.specs.Prelude.{Err}
use Rattle.std.specs.List.{list_any, slice_split}
use Rattle.graft_texts.specs.declared.AsmKind.{AsmKind}
use Rattle.graft_texts.specs.declared.AsmKind.TheVariants.{UnknownMnemonic, BadOperands}
use Rattle.graft_texts.specs.declared.AsmKind.TheVariants.{LabelNotSet, LabelSetTwice}
use Rattle.graft_texts.specs.declared.AsmKind.TheVariants.{TooManyInstructions, BadData}
use Rattle.kernel_data.specs.declared.Instr.{Instr}
use Rattle.kernel_data.specs.declared.Op.{Op}
use Rattle.kernel_data.specs.declared.Op.TheVariants.{Jmp, Jz, Jnz, Call}
use Rattle.kernel_data.specs.Bytes.{number_of, hex_word, hex_text, is_label}
use Rattle.kernel_data.specs.World.{Image, plain_image, same_bytes}
use Rattle.graft_code.specs.Callables.{callable_id, callable_name}
use Rattle.graft_code.specs.Instructions.{row_of, op_named}

-- ---- words and labels

-- the lines of a text; the last one may lack its newline
abbrev pub lines_of : List ℕ → List (List ℕ)
lines_of text = slice_split (λ b. b == 10) text

-- the words of a line, separated by single spaces
abbrev pub words_of : List ℕ → List (List ℕ)
words_of line = slice_split (λ b. b == 32) line

-- a word is empty
abbrev pub is_empty : List ℕ → Bool
is_empty word = length word == 0

-- a blank line or a comment
abbrev pub is_passed_over : List ℕ → Bool
is_passed_over [] = true
is_passed_over (c ∷ cs) = c == 35

-- a label and its colon
abbrev pub label_set_by : List ℕ → Option (List ℕ)
label_set_by word =
    let name = take (length word - 1) word in
    cond (slice_index word (length word - 1) == 58 && is_label name) (Some name) None

-- ---- operands

-- `r0` to `r15`
abbrev pub register_names : List (List ℕ)
register_names =
    codes "r0" ∷ codes "r1" ∷ codes "r2" ∷ codes "r3" ∷ codes "r4" ∷ codes "r5" ∷ codes "r6"
    ∷ codes "r7"
    ∷ codes "r8" ∷ codes "r9" ∷ codes "r10" ∷ codes "r11" ∷ codes "r12" ∷ codes "r13" ∷ codes "r14"
    ∷ codes "r15" ∷ []

-- the number of a register
abbrev pub register_of : List ℕ → Option ℕ
register_of word = position (same_bytes word) register_names

-- an imm, which a label gives if one is named
pub record Imm : Type 0 where
  pub value : ℕ
  pub label : Option (List ℕ)

-- an imm that is written as a number
abbrev pub number_imm : Option ℕ → Option Imm
number_imm None = None
number_imm (Some n) = Some (record { value = n; label = None })

-- an imm that a label gives, if the word is a label
abbrev pub label_imm : List ℕ → Option Imm
label_imm word = cond (is_label word) (Some (record { value = 0; label = Some word })) None

-- a target of a jump: `@n`, or a label
abbrev pub target_of : List ℕ → Option Imm
target_of [] = None
target_of (c ∷ cs) = cond (c == 64) (number_imm (number_of cs)) (label_imm (c ∷ cs))

-- a callee by its id, otherwise by a number
abbrev pub callee_by : Option ℕ → List ℕ → Option ℕ
callee_by (Some id) word = Some id
callee_by None word = number_of word

-- what is called: a name of the callable list, or a number
abbrev pub callee_of : List ℕ → Option ℕ
callee_of word = callee_by (callable_id word) word

-- the imm of an operation: a target, a callee or a number
abbrev pub imm_of : Op → List ℕ → Option Imm
imm_of Jmp word = target_of word
imm_of Jz word = target_of word
imm_of Jnz word = target_of word
imm_of Call word = number_imm (callee_of word)
imm_of _ word = number_imm (number_of word)

-- the value of a field, and the words after it
pub record Field (A : Type 0) : Type 0 where
  pub value : A
  pub rest : List (List ℕ)

-- a field with this value and these words after it, if there is a value
abbrev pub field_before : {A : Type 0} → Option A → List (List ℕ) → Option (Field A)
field_before None rest = None
field_before (Some x) rest = Some (record { value = x; rest = rest })

-- a register: the next word if the field is named, otherwise 0
abbrev pub register_field : Bool → List (List ℕ) → Option (Field ℕ)
register_field false words = Some (record { value = 0; rest = words })
register_field true [] = None
register_field true (word ∷ words) = field_before (register_of word) words

-- an imm: the next word if the field is named, otherwise 0
abbrev pub imm_field : Op → Bool → List (List ℕ) → Option (Field Imm)
imm_field op false words =
    Some (record { value = record { value = 0; label = None }; rest = words })
imm_field op true [] = None
imm_field op true (word ∷ words) = field_before (imm_of op word) words

-- ---- lines

-- what a line says
pub data Statement : Type 0 where
  Blank : Statement
  SetsLabel : (name : List ℕ) → Statement
  Data : (digits : List ℕ) → Statement
  -- an instruction, and the label that gives its imm, if one is named
  Instruction : (instr : Instr) → (label : Option (List ℕ)) → Statement

-- an instruction by its fields, unless more words are left
abbrev pub instruction_of : Op → (a b c : ℕ) → Imm → List (List ℕ) → Option Statement
instruction_of op a b c imm [] =
    Some (Instruction (record { op = op; a = a; b = b; c = c; imm = imm.value }) imm.label)
instruction_of op a b c imm (word ∷ words) = None

-- an instruction of which a, b and c are known; the words after c are the imm's
abbrev pub with_c : Op → (a b : ℕ) → Option (Field ℕ) → Option Statement
with_c op a b None = None
with_c op a b (Some c) =
    elim (imm_field op (row_of op).form.imm c.rest) [
      | None ↦ None
      | Some imm ↦ instruction_of op a b c.value imm.value imm.rest
    ]

-- an instruction of which a and b are known; the words after b are those of c and the imm
abbrev pub with_b : Op → (a : ℕ) → Option (Field ℕ) → Option Statement
with_b op a None = None
with_b op a (Some b) = with_c op a b.value (register_field (row_of op).form.c b.rest)

-- an instruction of which a is known; the words after a are those of the other fields
abbrev pub with_a : Op → Option (Field ℕ) → Option Statement
with_a op None = None
with_a op (Some a) = with_b op a.value (register_field (row_of op).form.b a.rest)

-- the instruction of an operation that has these words as operands, in the order of its fields
abbrev pub operands_of : Op → List (List ℕ) → Option Statement
operands_of op words = with_a op (register_field (row_of op).form.a words)

-- a statement, or bad operands
abbrev pub or_bad_operands : Option Statement → Result Statement AsmKind
or_bad_operands None = Err BadOperands
or_bad_operands (Some s) = Ok s

-- an instruction of this operation, if there is one
abbrev pub by_mnemonic : Option Op → List (List ℕ) → Result Statement AsmKind
by_mnemonic None words = Err UnknownMnemonic
by_mnemonic (Some op) words = or_bad_operands (operands_of op words)

-- a label, which must be the only word of its line
abbrev pub by_label : List ℕ → List (List ℕ) → Result Statement AsmKind
by_label name [] = Ok (SetsLabel name)
by_label name (word ∷ words) = Err BadOperands

-- data, which must be one word
abbrev pub by_digits : List (List ℕ) → Result Statement AsmKind
by_digits (digits ∷ []) = Ok (Data digits)
by_digits _ = Err BadOperands

-- a line that sets no label: data, or an instruction
abbrev pub by_first : List ℕ → List (List ℕ) → Result Statement AsmKind
by_first first rest = elim (same_bytes first (codes ".bytes")) [
  | true ↦ by_digits rest
  | false ↦ by_mnemonic (op_named first) rest
]

-- what a line with these words says: a label if the first word has a colon, otherwise what
-- `by_first` says
abbrev pub by_words : List (List ℕ) → Result Statement AsmKind
by_words [] = Ok Blank
by_words (first ∷ rest) =
    elim (label_set_by first) [ Some name ↦ by_label name rest | None ↦ by_first first rest ]

-- what a line says, or why it is refused
abbrev pub statement_of : List ℕ → Result Statement AsmKind
statement_of line =
    elim (is_passed_over line) [
      | true ↦ Ok Blank
      | false ↦ elim (list_any is_empty (words_of line)) [
        | true ↦ Err BadOperands
        | false ↦ by_words (words_of line)
      ]
    ]

-- ---- the whole text

-- a line that is refused, and why
pub record LineFault : Type 0 where
  pub line : ℕ
  pub kind : AsmKind

-- an instruction, and the label that gives its imm, if one is named, with the line that names it
pub record Placed : Type 0 where
  pub instr : Instr
  pub label : Option (List ℕ)
  pub line : ℕ

-- a label, and the number of the instruction after it, once it is set
pub record Label : Type 0 where
  pub name : List ℕ
  pub place : Option ℕ

-- what the lines so far gave; the labels are in the order of their first use
pub record Assembly : Type 0 where
  pub code : List Placed
  pub body : List ℕ
  pub labels : List Label

-- nothing so far
abbrev pub empty_assembly : Assembly
empty_assembly = record { code = []; body = []; labels = [] }

-- a line is refused
abbrev pub refused : ℕ → AsmKind → Result Assembly LineFault
refused line kind = Err (record { line = line; kind = kind })

-- the place where a label is set, if it is set
abbrev pub label_place : List ℕ → List Label → Option ℕ
label_place name [] = None
label_place name (l ∷ ls) = cond (same_bytes name l.name) l.place (label_place name ls)

-- the labels, with this one set at this place
abbrev pub with_place : List ℕ → ℕ → List Label → List Label
with_place name place [] = record { name = name; place = Some place } ∷ []
with_place name place (l ∷ ls) =
    cond (same_bytes name l.name) (record l { place = Some place } ∷ ls)
    (l ∷ with_place name place ls)

-- the labels, with this one among them
abbrev pub with_use : List ℕ → List Label → List Label
with_use name [] = record { name = name; place = None } ∷ []
with_use name (l ∷ ls) = cond (same_bytes name l.name) (l ∷ ls) (l ∷ with_use name ls)

-- the labels, with the one among them that an instruction names, if it names one
abbrev pub with_label_of : Option (List ℕ) → List Label → List Label
with_label_of None labels = labels
with_label_of (Some name) labels = with_use name labels

-- a label is set here, unless it was set before
abbrev pub with_label : ℕ → Assembly → List ℕ → Option ℕ → Result Assembly LineFault
with_label line a name (Some place) = refused line LabelSetTwice
with_label line a name None = Ok (record a { labels = with_place name (length a.code) a.labels })

-- data with these bytes appended, at most 4,096 bytes in all
abbrev pub joined_data : List ℕ → Option (List ℕ) → Option (List ℕ)
joined_data body None = None
joined_data body (Some bytes) =
    cond (nat_lt 4096 (length body + length bytes)) None (Some (body ++ bytes))

-- data with the bytes of these hex digits appended
abbrev pub data_after : List ℕ → List ℕ → Option (List ℕ)
data_after body digits = joined_data body (hex_word 65534 digits)

-- an assembly with this data, or the refusal if there is none
abbrev pub with_data : ℕ → Assembly → Option (List ℕ) → Result Assembly LineFault
with_data line a None = refused line BadData
with_data line a (Some body) = Ok (record a { body = body })

-- an instruction is appended to the others; there are at most 1,024
abbrev pub with_instr : ℕ → Assembly → Instr → Option (List ℕ) → Result Assembly LineFault
with_instr line a i label =
    cond (nat_le 1024 (length a.code)) (refused line TooManyInstructions)
    (Ok (record a {
      code = a.code ++ record { instr = i; label = label; line = line } ∷ [];
      labels = with_label_of label a.labels;
    }))

-- what a statement adds
abbrev pub with_statement : ℕ → Assembly → Statement → Result Assembly LineFault
with_statement line a Blank = Ok a
with_statement line a (SetsLabel name) = with_label line a name (label_place name a.labels)
with_statement line a (Data digits) = with_data line a (data_after a.body digits)
with_statement line a (Instruction i label) = with_instr line a i label

-- what a line adds by what it says, or why it is refused
abbrev pub with_said : ℕ → Assembly → Result Statement AsmKind → Result Assembly LineFault
with_said line a (Err kind) = refused line kind
with_said line a (Ok s) = with_statement line a s

-- what a line adds
abbrev pub with_line : ℕ → Assembly → List ℕ → Result Assembly LineFault
with_line line a text = with_said line a (statement_of text)

-- what these lines add, if the first one has this number; the first line that is refused decides
abbrev pub with_lines : ℕ → Assembly → List (List ℕ) → Result Assembly LineFault
with_lines line a [] = Ok a
with_lines line a (text ∷ texts) =
    elim (with_line line a text) [ Err fault ↦ Err fault | Ok b ↦ with_lines (suc line) b texts ]

-- ---- labels become numbers

-- an instruction with its label's place as its imm, or the refusal if the label is never set
abbrev pub linked_to : Placed → Option ℕ → Result Instr LineFault
linked_to p None = Err (record { line = p.line; kind = LabelNotSet })
linked_to p (Some place) = Ok (record (p.instr) { imm = place })

-- an instruction with its label, if it has one, replaced by the number of an instruction
abbrev pub linked_by : List Label → Placed → Option (List ℕ) → Result Instr LineFault
linked_by labels p None = Ok p.instr
linked_by labels p (Some name) = linked_to p (label_place name labels)

-- an instruction before others, or the first refusal
abbrev pub before_code : Result Instr LineFault → Result (List Instr) LineFault →
    Result (List Instr) LineFault
before_code (Err fault) rest = Err fault
before_code (Ok i) (Err fault) = Err fault
before_code (Ok i) (Ok is) = Ok (i ∷ is)

-- instructions with numbers instead of labels; the first one whose label is never set decides
abbrev pub linked : List Label → List Placed → Result (List Instr) LineFault
linked labels [] = Ok []
linked labels (p ∷ ps) = before_code (linked_by labels p p.label) (linked labels ps)

-- an image of this code, or the refusal
abbrev pub image_by : List ℕ → Result (List Instr) LineFault → Result Image LineFault
image_by body (Err fault) = Err fault
image_by body (Ok code) = Ok (plain_image code body)

-- the image of an assembly
abbrev pub image_of : Result Assembly LineFault → Result Image LineFault
image_of (Err fault) = Err fault
image_of (Ok a) = image_by a.body (linked a.labels a.code)

-- the image that a text describes, or the line that is refused and why
abbrev pub assemble : List ℕ → Result Image LineFault
assemble text = image_of (with_lines 1 empty_assembly (lines_of text))

-- ---- back

-- the word of a register
abbrev pub register_word : ℕ → List ℕ
register_word n = codes "r" ++ decimal n

-- the word of an imm: a target gets an `@`, a callee's id and any other number is as it is
abbrev pub imm_word : Op → ℕ → List ℕ
imm_word Jmp n = codes "@" ++ decimal n
imm_word Jz n = codes "@" ++ decimal n
imm_word Jnz n = codes "@" ++ decimal n
imm_word _ n = decimal n

-- a space and a word, if its field is named
abbrev pub operand_text : Bool → List ℕ → List ℕ
operand_text named word = cond named (32 ∷ word) []

-- the line of an instruction: its mnemonic, and its operands in the order of the fields
abbrev pub instr_line : Instr → List ℕ
instr_line i =
    let r = row_of i.op in
    r.name ++ (operand_text r.form.a (register_word i.a)
    ++ (operand_text r.form.b (register_word i.b)
    ++ (operand_text r.form.c (register_word i.c)
    ++ operand_text r.form.imm (imm_word i.op i.imm))))

-- the line of an instruction, with its newline
abbrev pub instr_text : Instr → List ℕ
instr_text i = instr_line i ++ 10 ∷ []

-- the line of the data, if there is any
abbrev pub body_text : List ℕ → List ℕ
body_text [] = []
body_text (b ∷ bytes) = codes ".bytes " ++ hex_text (b ∷ bytes) ++ 10 ∷ []

-- the text of an image: one instruction on a line, and then the data
abbrev pub disassemble : Image → List ℕ
disassemble i = flat_map instr_text i.code ++ body_text i.body
