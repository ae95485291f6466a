-- A whole lab file, read line by line.
use Rattle.std.specs.Prelude.{ℕ, suc, ◌-◌, ◌==◌, Bool, true, false, cond, not, List, [], ◌∷◌, ◌++◌}
use Rattle.std.specs.Prelude.{length, take, slice_index, codes, Result, Ok, Err}
use Rattle.std.specs.List.{list_any}
use Rattle.script_model.specs.World.{same_bytes}
use Rattle.script_model.specs.Assembler.{is_empty, is_passed_over, lines_of}
use Rattle.lab_reader.specs.declared.faults.LabKind.TheVariants as kind
use Rattle.lab_reader.specs.declared.graft.Notation.TheVariants.{Assembler}
use Rattle.lab_reader.specs.Faults.{Refusal, refused}
use Rattle.lab_reader.specs.Words.{code_of, left_of, parts_of, wanted_of, with_spaces}
use Rattle.lab_reader.specs.Settings.{Settings, first_settings, with_key, with_disk, with_fails}
use Rattle.lab_reader.specs.Grafts.{Graft, begun_of, new_graft, with_code}
use Rattle.lab_reader.specs.Sheet.{Sheet, first_sheet, with_blank, with_image, with_plain, with_want}

-- What the lines so far said. Inside a graft the draft is that graft.
pub record Lab : Type 0 where
  pub settings : Settings
  pub grafts : List Graft
  pub inside : Bool
  pub draft : Graft
  pub sheet : Sheet

-- no graft
abbrev pub no_graft : Graft
no_graft = new_graft [] Assembler false 0

-- before the first line
abbrev pub first_lab : Lab
first_lab = record {
  settings = first_settings;
  grafts = [];
  inside = false;
  draft = no_graft;
  sheet = first_sheet;
}

-- these settings, and the line says nothing in the script
abbrev pub set_by : Lab → Result Settings Refusal → Result Lab Refusal
set_by lab (Err fault) = Err fault
set_by lab (Ok settings) = Ok (record lab { settings = settings; sheet = with_blank lab.sheet [] })

-- this graft begins
abbrev pub begins_by : Lab → Result Graft Refusal → Result Lab Refusal
begins_by lab (Err fault) = Err fault
begins_by lab (Ok graft) =
    Ok (record lab { inside = true; draft = graft; sheet = with_blank lab.sheet [] })

-- this sheet
abbrev pub written_by : Lab → Result Sheet Refusal → Result Lab Refusal
written_by lab (Err fault) = Err fault
written_by lab (Ok sheet) = Ok (record lab { sheet = sheet })

-- images were sealed already
abbrev pub has_images : Lab → Bool
has_images lab = not (length lab.sheet.slots == 0)

-- what a line outside of grafts says, by its first word and those behind it
abbrev pub by_first : ℕ → Lab → List ℕ → (first : List ℕ) → List (List ℕ) → Result Lab Refusal
by_first n lab text first rest =
    elim (same_bytes first (codes "image")) [
      | true ↦ written_by lab (with_image n lab.grafts lab.sheet text rest)
      | false ↦ elim (same_bytes first (codes "graft")) [
        | true ↦ begins_by lab (begun_of n lab.grafts rest)
        | false ↦ elim (same_bytes first (codes "end")) [
          | true ↦ refused n kind.StrayEnd
          | false ↦ elim (same_bytes first (codes "key")) [
            | true ↦ set_by lab (with_key n (has_images lab) lab.settings rest)
            | false ↦ elim (same_bytes first (codes "disk")) [
              | true ↦ set_by lab (with_disk n lab.settings rest)
              | false ↦ elim (same_bytes first (codes "fail")) [
                | true ↦ set_by lab (with_fails n lab.settings rest)
                | false ↦ Ok (record lab { sheet = with_plain n lab.sheet text })
              ]
            ]
          ]
        ]
      ]
    ]

-- the same of all words
abbrev pub by_words : ℕ → Lab → List ℕ → List (List ℕ) → Result Lab Refusal
by_words n lab text [] = Ok lab
by_words n lab text (first ∷ rest) = by_first n lab text first rest

-- what the wanted line behind a line adds
abbrev pub and_wanted : ℕ → (left code : List ℕ) → Result Lab Refusal → Result Lab Refusal
and_wanted n left code (Err fault) = Err fault
and_wanted n left code (Ok lab) =
    written_by lab (with_want n (is_empty left) lab.sheet (wanted_of code))

-- a line outside of grafts, without its remark
abbrev pub outside_code : ℕ → Lab → List ℕ → Result Lab Refusal
outside_code n lab code =
    let left = left_of code in and_wanted n left code (by_words n lab left (parts_of left))

-- a line outside of grafts; an empty one and one that is a remark stay as they are
abbrev pub outside_line : ℕ → Lab → List ℕ → Result Lab Refusal
outside_line n lab line =
    elim (is_passed_over line) [
      | true ↦ Ok (record lab { sheet = with_blank lab.sheet line })
      | false ↦ outside_code n lab (code_of line)
    ]

-- a line inside a graft, without its remark
abbrev pub inside_code : ℕ → Lab → List ℕ → Lab
inside_code n lab code =
    elim (same_bytes code (codes "end")) [
      | true ↦ record lab {
        grafts = lab.grafts ++ lab.draft ∷ [];
        inside = false;
        draft = no_graft;
        sheet = with_blank lab.sheet [];
      }
      | false ↦ record lab {
        draft = with_code n lab.draft.notation lab.draft code;
        sheet = with_blank lab.sheet [];
      }
    ]

-- what a line adds
abbrev pub with_line : ℕ → Lab → List ℕ → Result Lab Refusal
with_line n lab line =
    elim lab.inside [
      | true ↦ Ok (inside_code n lab (code_of line))
      | false ↦ outside_line n lab line
    ]

-- what these lines add, the first of which has this number; the first line that is refused decides
abbrev pub with_lines : ℕ → Lab → List (List ℕ) → Result Lab Refusal
with_lines n lab [] = Ok lab
with_lines n lab (line ∷ lines) =
    elim (with_line n lab line) [
      | Err fault ↦ Err fault
      | Ok after ↦ with_lines (suc n) after lines
    ]

-- the file ends outside of grafts
abbrev pub ended : Result Lab Refusal → Result Lab Refusal
ended (Err fault) = Err fault
ended (Ok lab) = elim lab.inside [ true ↦ refused lab.draft.begun kind.NoEnd | false ↦ Ok lab ]

-- a text without the newline at its end
abbrev pub without_newline : List ℕ → List ℕ
without_newline text =
    cond (slice_index text (length text - 1) == 10) (take (length text - 1) text) text

-- what a text says, whose tabs and carriage returns are spaces
abbrev pub lab_of_spaced : List ℕ → Result Lab Refusal
lab_of_spaced text = ended (with_lines 1 first_lab (lines_of (without_newline text)))

-- what a lab file says, or the line that is refused and why
abbrev pub lab_of : List ℕ → Result Lab Refusal
lab_of text = lab_of_spaced (with_spaces text)
