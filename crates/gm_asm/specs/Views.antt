-- What the values of the assembler's code stand for.
use Rattle.std.specs.Prelude.{◌≡◌, ℕ, Bool, true, not, ◌&&◌, ◌||◌, is_some, List, Option, option_map, Result, Ok, Err}
use Rattle.std.specs.Global.{Vec}
use Rattle.std.specs.Option.{option_copied}
use Rattle.graft_texts.specs.declared.AsmKind.{AsmKind}
use Rattle.graft_texts.specs.declared.Instr.{Instr}
use Rattle.graft_texts.specs.Instructions.{row_of, fits}
use Rattle.graft_texts.specs.Assembler as spec
use Rattle.gm_asm.specs.declared.words.Imm.{Imm}
use Rattle.gm_asm.specs.declared.statement.Statement.{Statement}
use Rattle.gm_asm.specs.declared.statement.Statement.TheVariants.{Blank, SetsLabel, Data, Instruction}

-- an imm
abbrev pub imm_view : Imm → spec.Imm
imm_view i = record { value = i.value; label = option_copied i.label }

-- an instruction can be encoded, and has an imm if a label is to give it
abbrev pub is_placed : Instr → Bool → Bool
is_placed i has_label = fits i && (not has_label || (row_of i.op).form.imm)

-- a statement
abbrev pub statement_view : Statement → spec.Statement
statement_view Blank = spec.Blank
statement_view (SetsLabel name) = spec.SetsLabel name.now
statement_view (Data digits) = spec.Data digits.now
statement_view (Instruction i label) = spec.Instruction i (option_copied label)

-- a statement, or why a line is refused
abbrev pub said_view : Result Statement AsmKind → Result spec.Statement AsmKind
said_view (Ok s) = Ok (statement_view s)
said_view (Err kind) = Err kind

-- the instruction of a statement can be encoded, and has an imm if a label is to give it
abbrev pub StatementFits : Statement → Type 0
StatementFits (Instruction i label) = is_placed i (is_some label) ≡ true
StatementFits _ = Unit {0}

-- bytes that were found
abbrev pub bytes_view : Option (Vec ℕ) → Option (List ℕ)
bytes_view found = option_map (λ v. v.items) found
