-- What the assembler's state stands for.
use Rattle.std.specs.Prelude.{◌≡◌, ◌≤◌, ℕ, Bool, true, List, length, map, is_some, Option}
use Rattle.std.specs.List.{list_all}
use Rattle.std.specs.Borrow.{Bor}
use Rattle.std.specs.Option.{option_copied}
use Rattle.graft_texts.specs.Assembler as spec
use Rattle.gm_asm.specs.declared.assembly.Placed.{Placed}
use Rattle.gm_asm.specs.Views.{is_placed}

-- an instruction with its label
abbrev pub placed_view : Placed → spec.Placed
placed_view p = record { instr = p.instr; label = option_copied p.label; line = p.line }

-- a label and its place
abbrev pub label_view : Bor (List ℕ) × Option ℕ → spec.Label
label_view e = record { name = e.0.now; place = e.1 }

-- each instruction can be encoded, and has an imm if a label is to give it
abbrev pub is_placed_instr : Placed → Bool
is_placed_instr p = is_placed p.instr (is_some p.label)

-- what the assembler's code, data and labels stand for
abbrev pub assembly_of : List Placed → List ℕ → List (Bor (List ℕ) × Option ℕ) → spec.Assembly
assembly_of code body labels =
    record { code = map placed_view code; body = body; labels = map label_view labels }

-- code and data are within the limits, and code can be encoded
pub record IsWithin (code : List Placed) (body : List ℕ) : Type 0 where
  pub code_len : length code ≤ 1024
  pub body_len : length body ≤ 4096
  pub code_fits : list_all is_placed_instr code ≡ true
