-- The grafts that a lab file writes: their texts as the assembler and the compiler read them.
use Rattle.std.specs.Prelude.{ℕ, ◌==◌, Bool, true, false, cond, ◌&&◌, not, is_some, List, [], ◌∷◌}
use Rattle.std.specs.Prelude.{◌++◌, map, position, codes, Option, None, Some, Result, Ok, Err}
use Rattle.std.specs.List.{slice_split}
use Rattle.script_model.specs.World.{same_bytes}
use Rattle.script_model.specs.Assembler.{is_empty}
use Rattle.script_model.specs.Bytes.{is_label}
use Rattle.lab_reader.specs.declared.faults.LabKind.{LabKind}
use Rattle.lab_reader.specs.declared.faults.LabKind.TheVariants as kind
use Rattle.lab_reader.specs.declared.graft.Notation.{Notation}
use Rattle.lab_reader.specs.declared.graft.Notation.TheVariants.{Assembler, Language}
use Rattle.lab_reader.specs.Words.{is_hex, parts_of, words_before, joined, plain_word}
use Rattle.lab_reader.specs.Faults.{Refusal, refused}

-- A graft: its name, what it is written in, whether it keeps its segment, the line that begins it,
-- its text, and for each line of the text the line of the file that it comes from.
pub record Graft : Type 0 where
  pub name : List ℕ
  pub notation : Notation
  pub keep : Bool
  pub begun : ℕ
  pub text : List ℕ
  pub lines : List ℕ

-- a graft with no text yet
abbrev pub new_graft : List ℕ → Notation → (keep : Bool) → ℕ → Graft
new_graft name notation keep begun =
    record { name = name; notation = notation; keep = keep; begun = begun; text = []; lines = [] }

-- the place of the graft of this name
abbrev pub place_of : List ℕ → List Graft → Option ℕ
place_of name grafts = position (λ (g : Graft). same_bytes name g.name) grafts

-- ---- the line that begins a graft

-- a name that is no name of a graft, or is taken
abbrev pub name_fault : List ℕ → List Graft → Option LabKind
name_fault name grafts =
    elim (is_label name) [
      | false ↦ Some kind.BadName
      | true ↦ elim (is_hex name) [
        | true ↦ Some kind.NameIsHex
        | false ↦ elim (is_some (place_of name grafts)) [
          | true ↦ Some kind.GraftTwice
          | false ↦ None
        ]
      ]
    ]

-- what one word behind the name of a graft says: what it is written in, and whether it keeps its
-- segment
abbrev pub style_by_one : List ℕ → Option (Notation × Bool)
style_by_one word =
    elim (same_bytes word (codes "language")) [
      | true ↦ Some (Language, false)
      | false ↦ elim (same_bytes word (codes "keep")) [
        | true ↦ Some (Assembler, true)
        | false ↦ None
      ]
    ]

-- the same of all words behind the name
abbrev pub style_of : List (List ℕ) → Option (Notation × Bool)
style_of [] = Some (Assembler, false)
style_of (word ∷ []) = style_by_one word
style_of (word ∷ other ∷ []) =
    elim (same_bytes word (codes "language") && same_bytes other (codes "keep")) [
      | true ↦ Some (Language, true)
      | false ↦ None
    ]
style_of _ = None

-- a graft of this name, unless it is none
abbrev pub begun_by : ℕ → List ℕ → Notation → (keep : Bool) → Option LabKind →
    Result Graft Refusal
begun_by n name notation keep (Some fault) = refused n fault
begun_by n name notation keep None = Ok (new_graft name notation keep n)

-- the same, if the words behind the name are right
abbrev pub styled_by : ℕ → List ℕ → Option LabKind → Option (Notation × Bool) →
    Result Graft Refusal
styled_by n name fault None = refused n kind.BadGraft
styled_by n name fault (Some style) = begun_by n name style.0 style.1 fault

-- the graft that these words behind `graft` begin
abbrev pub begun_of : ℕ → List Graft → List (List ℕ) → Result Graft Refusal
begun_of n grafts [] = refused n kind.BadGraft
begun_of n grafts (name ∷ words) = styled_by n name (name_fault name grafts) (style_of words)

-- ---- the lines of a graft

-- one more line of the text, which this line of the file wrote
abbrev pub with_line : ℕ → Graft → List ℕ → Graft
with_line n g line = record g { text = g.text ++ (line ++ 10 ∷ []); lines = g.lines ++ n ∷ [] }

-- data is hex digits as they stand
abbrev pub is_data : List (List ℕ) → Bool
is_data [] = false
is_data (first ∷ rest) = same_bytes first (codes ".bytes")

-- the words of an instruction or of data
abbrev pub plain_words : List (List ℕ) → List (List ℕ)
plain_words words = cond (is_data words) words (map plain_word words)

-- an instruction, a label or data as the assembler reads it
abbrev pub statement_of : List ℕ → List ℕ
statement_of part = joined (plain_words (words_before (parts_of part)))

-- one more statement, if there is one
abbrev pub with_statement : ℕ → Graft → List ℕ → Graft
with_statement n g statement = cond (is_empty statement) g (with_line n g statement)

-- the statements of a line
abbrev pub with_statements : ℕ → Graft → List (List ℕ) → Graft
with_statements n g [] = g
with_statements n g (part ∷ parts) =
    with_statements n (with_statement n g (statement_of part)) parts

-- what a line adds to a graft
abbrev pub with_code : ℕ → Notation → Graft → List ℕ → Graft
with_code n Assembler g code = with_statements n g (slice_split (λ b. b == 59) code)
with_code n Language g code = with_line n g code
