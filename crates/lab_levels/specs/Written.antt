-- Instructions in words: the lines that wrote them, and their texts.
use Rattle.std.specs.Prelude.{ℕ, ◌+◌, ◌-◌, ◌^◌, ◌==◌, ◌&&◌, Bool, true, false, not, cond, min}
use Rattle.std.specs.Prelude.{nat_lt, List, [], ◌∷◌, ◌++◌, length, codes, Option, None, Some}
use Rattle.std.specs.Prelude.{is_some, filter, slice_get, slice_index}
use Rattle.std.specs.List.{slice_split, zip}
use Rattle.std.specs.Option.{option_map_or}
use Rattle.script_model.specs.declared.Instr.{Instr}
use Rattle.script_model.specs.World.{Image, plain_image}
use Rattle.script_model.specs.Assembler.{disassemble}
use Rattle.script_model.specs.Boxed.{access_width}
use Rattle.script_model.specs.Script.{first_word}
use Rattle.lab_reader.specs.Grafts.{Graft}
use Rattle.lab_reader.specs.declared.graft.Notation.{Notation}
use Rattle.lab_reader.specs.declared.graft.Notation.TheVariants as notation
use Rattle.lab_levels.specs.declared.code.Origin.{Origin}
use Rattle.lab_levels.specs.Outside.{numbered}

-- ---- the line of an instruction

-- a line of assembler text is an instruction: it is not empty, no remark, no directive and no label
abbrev pub is_instruction : List ℕ → Bool
is_instruction line =
    not (length line == 0) && not (slice_index line 0 == 35) && not (slice_index line 0 == 46)
    && not (slice_index line (length line - 1) == 58)

-- the lines of a text that are instructions, each behind the number that belongs to it
abbrev pub instruction_lines : (numbers text : List ℕ) → List (ℕ × List ℕ)
instruction_lines numbers text =
    filter (λ (l : ℕ × List ℕ). is_instruction l.1) (zip numbers (slice_split (λ b. b == 10) text))

-- a line behind its number, as far as 32 bits count
unfoldable pub numbered_line : ℕ → List ℕ → List ℕ
numbered_line number line = numbered (codes "line ") (min number (2 ^ 32 - 1)) ++ codes ": " ++ line

-- nothing where there is none
abbrev pub line_said : Option (ℕ × List ℕ) → List ℕ
line_said None = []
line_said (Some l) = numbered_line l.0 l.1

-- the k-th of them, from 0
abbrev pub written_said : (numbers text : List ℕ) → (k : ℕ) → List ℕ
written_said numbers text k = line_said (slice_get (instruction_lines numbers text) k)

-- ---- boxed code

-- an instruction is an access to memory
abbrev pub is_access : Instr → Bool
is_access i = is_some (access_width i.op)

-- how many instructions of boxed code it becomes
abbrev pub boxed_count : Instr → ℕ
boxed_count i = cond (is_access i) 3 1

-- the number of the instruction of which an instruction of boxed code is a part; that of all of
-- them where it is behind all
abbrev pub written_place : List Instr → (boxed : ℕ) → ℕ
written_place [] boxed = 0
written_place (i ∷ code) boxed =
    cond (nat_lt boxed (boxed_count i)) 0 (written_place code (boxed - boxed_count i) + 1)

-- the number of an instruction as it was written: in raw code it stands where it was written
abbrev pub place_of : List Instr → (raw : Bool) → (place : ℕ) → ℕ
place_of code raw place = cond raw place (written_place code place)

-- ---- the text of an instruction

-- the first line of what code of this instruction alone is written as
unfoldable pub text_said : Instr → List ℕ
text_said i = first_word (slice_split (λ b. b == 10) (disassemble (plain_image (i ∷ []) [])))

-- ---- what is said of an instruction

-- a graft, the code that it was written as, and whether that was sealed as it stands
pub record Source : Type 0 where
  pub graft : Graft
  pub code : List Instr
  pub raw : Bool

-- a graft is written in the graft language
abbrev pub is_program : Notation → Bool
is_program notation.Language = true
is_program n = false

-- those of a graft of which both are known, and that is no program of the graft language
abbrev pub source_with : Option Image → Option Graft → (raw : Bool) → Option Source
source_with (Some i) (Some g) raw =
    cond (is_program g.notation) None (Some (record { graft = g; code = i.code; raw = raw }))
source_with image graft raw = None

-- those of an origin, among the images and the grafts of a file
abbrev pub source_of : List Image → List Graft → Option Origin → Option Source
source_of images grafts None = None
source_of images grafts (Some o) =
    source_with (slice_get images o.graft) (slice_get grafts o.graft) o.raw

-- where the instruction at a place was written
abbrev pub origin_said : Option Source → (place : ℕ) → List ℕ
origin_said None place = []
origin_said (Some s) place = written_said s.graft.lines s.graft.text (place_of s.code s.raw place)

-- its text is to be told too: it isn't known where it was written, or it is a part of an access
abbrev pub is_more : Option Source → (place : ℕ) → Bool
is_more None place = true
is_more (Some s) place =
    option_map_or (λ i. not s.raw && is_access i)
    (slice_get s.code (place_of s.code s.raw place)) true

-- the text of the instruction at a place, behind what was said already
abbrev pub text_behind : (said : List ℕ) → List Instr → (place : ℕ) → List ℕ
text_behind said code place =
    cond (nat_lt 0 (length said)) (codes "  as ") []
    ++ option_map_or text_said (slice_get code place) []

-- all of it
abbrev pub instruction_said : Option Source → List Instr → (place : ℕ) → List ℕ
instruction_said s code place =
    origin_said s place ++ cond (is_more s place) (text_behind (origin_said s place) code place) []
