-- Whether a submission holds the grafts that a task asks for, and no more.
use Rattle.std.specs.Prelude.{ℕ, suc, ◌==◌, Bool, true, false, not, List, [], ◌∷◌, ◌++◌, codes, Option, None, Some}
use Rattle.std.specs.Prelude.{Result, Ok, Err}
use Rattle.std.specs.List.{list_any, slice_split}
use Rattle.script_model.specs.World.{same_bytes}
use Rattle.lab_reader.specs.Words.{parts_of, with_spaces, words_before}
use Rattle.lab_task.specs.declared.faults.SubmissionFault.{SubmissionFault}
use Rattle.lab_task.specs.declared.faults.SubmissionFault.TheVariants.{Stray, NoEnd, NotAsked, Missing}
use Rattle.lab_task.specs.Task.{is_end}

-- a graft that begins: its line and its name
pub record Begun : Type 0 where
  pub line : ℕ
  pub name : List ℕ

-- the grafts that began so far, whether the last of them goes on, and the line that begins it
pub record Scan : Type 0 where
  pub grafts : List Begun
  pub inside : Bool
  pub begun : ℕ

-- before the first line
abbrev pub first_scan : Scan
first_scan = record { grafts = []; inside = false; begun = 0 }

-- the name behind the word `graft`; none where there is no word
abbrev pub name_in : List (List ℕ) → List ℕ
name_in [] = []
name_in (name ∷ words) = name

-- a graft begins
abbrev pub begins : ℕ → Scan → List (List ℕ) → Scan
begins n scan words = record {
  grafts = scan.grafts ++ record { line = n; name = name_in words } ∷ [];
  inside = true;
  begun = n;
}

-- a line outside of grafts is empty, a remark, or begins a graft
abbrev pub outside : ℕ → Scan → List (List ℕ) → Result Scan SubmissionFault
outside n scan [] = Ok scan
outside n scan (first ∷ words) =
    elim (same_bytes first (codes "graft")) [
      | true ↦ Ok (begins n scan words)
      | false ↦ Err (Stray n)
    ]

-- what a line with these words adds
abbrev pub with_words : ℕ → Scan → List (List ℕ) → Result Scan SubmissionFault
with_words n scan words =
    elim scan.inside [
      | true ↦ Ok (record scan { inside = not (is_end words) })
      | false ↦ outside n scan words
    ]

-- what these lines add, the first of which has this number
abbrev pub with_lines : ℕ → Scan → List (List ℕ) → Result Scan SubmissionFault
with_lines n scan [] = Ok scan
with_lines n scan (line ∷ lines) =
    elim (with_words n scan (words_before (parts_of line))) [
      | Err fault ↦ Err fault
      | Ok after ↦ with_lines (suc n) after lines
    ]

-- the last graft has its end
abbrev pub ended : Scan → Result (List Begun) SubmissionFault
ended scan = elim scan.inside [ true ↦ Err (NoEnd scan.begun) | false ↦ Ok scan.grafts ]

-- the same, unless a line was refused
abbrev pub ended_by : Result Scan SubmissionFault → Result (List Begun) SubmissionFault
ended_by (Err fault) = Err fault
ended_by (Ok scan) = ended scan

-- the grafts of a text whose tabs and carriage returns are spaces
abbrev pub grafts_in : List ℕ → Result (List Begun) SubmissionFault
grafts_in text = ended_by (with_lines 1 first_scan (slice_split (λ b. b == 10) text))

-- a name is among these
abbrev pub is_among : List ℕ → List (List ℕ) → Bool
is_among name names = list_any (λ other. same_bytes name other) names

-- the first graft that the task doesn't ask for
abbrev pub unasked : (gives : List (List ℕ)) → List Begun → Option SubmissionFault
unasked gives [] = None
unasked gives (graft ∷ grafts) =
    elim (is_among graft.name gives) [ true ↦ unasked gives grafts | false ↦ Some (NotAsked graft.line) ]

-- the first graft that is missing among those that the task asks for, of which the first has this
-- place
abbrev pub missing : ℕ → (gives : List (List ℕ)) → List Begun → Option SubmissionFault
missing k [] grafts = None
missing k (name ∷ gives) grafts =
    elim (list_any (λ (g : Begun). same_bytes name g.name) grafts) [
      | true ↦ missing (suc k) gives grafts
      | false ↦ Some (Missing k)
    ]

-- what is wrong with the grafts of a submission
abbrev pub fault_in : (gives : List (List ℕ)) → List Begun → Option SubmissionFault
fault_in gives grafts =
    elim (unasked gives grafts) [ Some fault ↦ Some fault | None ↦ missing 0 gives grafts ]

-- the same, unless a line was refused
abbrev pub fault_by : (gives : List (List ℕ)) → Result (List Begun) SubmissionFault → Option SubmissionFault
fault_by gives (Err fault) = Some fault
fault_by gives (Ok grafts) = fault_in gives grafts

-- what is wrong with a submission; nothing where it holds grafts alone, each of which the task asks
-- for, and each that the task asks for
abbrev pub fault_of : (gives : List (List ℕ)) → List ℕ → Option SubmissionFault
fault_of gives text = fault_by gives (grafts_in (with_spaces text))
