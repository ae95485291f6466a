-- A task, read line by line: its title, the grafts that a submission gives, and its tests.
use Rattle.std.specs.Prelude.{ℕ, suc, ◌==◌, Bool, true, false, ◌||◌, ◌&&◌, not, nat_lt, List, []}
use Rattle.std.specs.Prelude.{◌∷◌, ◌++◌, length, codes, Option, None, Some, Result, Ok, Err}
use Rattle.std.specs.List.{list_all, list_any, slice_split}
use Rattle.script_model.specs.World.{same_bytes}
use Rattle.script_model.specs.Assembler.{is_empty}
use Rattle.script_model.specs.Bytes.{number_of}
use Rattle.lab_reader.specs.Words.{joined_after, parts_of, with_spaces, words_before}
use Rattle.lab_task.specs.declared.faults.TaskKind.TheVariants as kind
use Rattle.lab_task.specs.Faults.{Refusal, refused}

-- A test: its name, its points, whether it is hidden, its hint, the line that begins it, and its
-- script, which has a line for each line of the test.
pub record Test : Type 0 where
  pub name : List ℕ
  pub points : ℕ
  pub hidden : Bool
  pub hint : List ℕ
  pub begun : ℕ
  pub script : List ℕ

-- What the lines so far said. While a test is read, `testing` holds and the draft is that test, and `inside` says
-- whether a graft of it is being written.
pub record Task : Type 0 where
  pub title : List ℕ
  pub gives : List (List ℕ)
  pub given : ℕ
  pub score : List ℕ
  pub most : Bool
  pub scored : ℕ
  pub tests : List Test
  pub testing : Bool
  pub draft : Test
  pub inside : Bool

-- words with one more behind them
abbrev pub with_last : List (List ℕ) → List ℕ → List (List ℕ)
with_last words word = words ++ word ∷ []

-- a test with no line yet
abbrev pub new_test : (name : List ℕ) → (points : ℕ) → (hidden : Bool) → (begun : ℕ) → Test
new_test name points hidden begun =
    record { name = name; points = points; hidden = hidden; hint = []; begun = begun; script = [] }

-- before the first line
abbrev pub first_task : Task
first_task = record {
  title = [];
  gives = [];
  given = 0;
  score = [];
  most = false;
  scored = 0;
  tests = [];
  testing = false;
  draft = new_test [] 0 false 0;
  inside = false;
}

-- a line more of the script of the test that is open
abbrev pub with_script : Task → List ℕ → Task
with_script task line =
    record task { draft = record task.draft { script = task.draft.script ++ (line ++ 10 ∷ []) } }

-- a line of the script, or a line before the first test that says something
abbrev pub kept : ℕ → Task → List ℕ → Result Task Refusal
kept n task line = elim task.testing [ true ↦ Ok (with_script task line) | false ↦ refused n kind.StrayLine ]

-- an empty line or a remark
abbrev pub passed_over : Task → List ℕ → Task
passed_over task line = elim task.testing [ true ↦ with_script task line | false ↦ task ]

-- ---- above the first test

-- the title: once
abbrev pub titled : ℕ → Task → List (List ℕ) → Result Task Refusal
titled n task words =
    elim (task.testing || not (is_empty task.title) || length words == 0) [
      | true ↦ refused n kind.BadTitle
      | false ↦ Ok (record task { title = joined_after task.title words })
    ]

-- the grafts that a submission gives: once
abbrev pub giving : ℕ → Task → List (List ℕ) → Result Task Refusal
giving n task words =
    elim (task.testing || not (task.given == 0) || length words == 0) [
      | true ↦ refused n kind.BadGives
      | false ↦ Ok (record task { gives = task.gives ++ words; given = n })
    ]

-- the figure by which submissions are ranked, and whether more of it is better: once
abbrev pub ranked : ℕ → Task → (figure : List ℕ) → (most : Bool) → Result Task Refusal
ranked n task figure most =
    elim (task.testing || not (task.scored == 0)) [
      | true ↦ refused n kind.BadScore
      | false ↦ Ok (record task { score = task.score ++ figure; most = most; scored = n })
    ]

-- the same by the words behind `score`
abbrev pub scoring : ℕ → Task → List (List ℕ) → Result Task Refusal
scoring n task (way ∷ figure ∷ []) =
    elim (same_bytes way (codes "least")) [
      | true ↦ ranked n task figure false
      | false ↦ elim (same_bytes way (codes "most")) [
        | true ↦ ranked n task figure true
        | false ↦ refused n kind.BadScore
      ]
    ]
scoring n task _ = refused n kind.BadScore

-- ---- the line that begins a test

-- a byte that may stand in the name of a test
abbrev pub is_name_byte : ℕ → Bool
is_name_byte b =
    (not (nat_lt b 97) && not (nat_lt 122 b)) || (not (nat_lt b 48) && not (nat_lt 57 b)) || b == 45

-- a word that may be the name of a test
abbrev pub is_name : List ℕ → Bool
is_name word = not (nat_lt 32 (length word)) && list_all is_name_byte word

-- a test that is done
abbrev pub closed : Task → Task
closed task =
    elim task.testing [
      | true ↦ record task { tests = task.tests ++ task.draft ∷ []; testing = false; draft = new_test [] 0 false 0 }
      | false ↦ task
    ]

-- a test of this name is done
abbrev pub is_taken : List ℕ → List Test → Bool
is_taken name tests = list_any (λ (t : Test). same_bytes name t.name) tests

-- the test that begins behind those that are done; its line is an empty one of its script
abbrev pub begins : ℕ → Task → (name : List ℕ) → (points : ℕ) → (hidden : Bool) → Result Task Refusal
begins n task name points hidden =
    elim (is_taken name task.tests) [
      | true ↦ refused n kind.TestTwice
      | false ↦ Ok (with_script (record task { testing = true; draft = new_test name points hidden n }) [])
    ]

-- the same, where the name is one
abbrev pub named : ℕ → Task → (name : List ℕ) → (points : ℕ) → (hidden : Bool) → Result Task Refusal
named n task name points hidden =
    elim (is_name name) [
      | true ↦ begins n task name points hidden
      | false ↦ refused n kind.BadTest
    ]

-- the same, where the points are a number up to 1,000
abbrev pub pointed : ℕ → Task → (name : List ℕ) → Option ℕ → (hidden : Bool) → Result Task Refusal
pointed n task name None hidden = refused n kind.BadPoints
pointed n task name (Some points) hidden =
    elim (nat_lt 1000 points) [
      | true ↦ refused n kind.BadPoints
      | false ↦ named n task name points hidden
    ]

-- the same by the words behind `test`
abbrev pub tested : ℕ → Task → List (List ℕ) → Result Task Refusal
tested n task [] = refused n kind.BadTest
tested n task (name ∷ []) = refused n kind.BadPoints
tested n task (name ∷ points ∷ []) = pointed n task name (number_of points) false
tested n task (name ∷ points ∷ word ∷ []) =
    elim (same_bytes word (codes "hidden")) [
      | true ↦ pointed n task name (number_of points) true
      | false ↦ refused n kind.BadTest
    ]
tested n task _ = refused n kind.BadTest

-- ---- the lines of a test

-- what is told to who fails
abbrev pub hinted : ℕ → Task → List (List ℕ) → Result Task Refusal
hinted n task words =
    elim task.testing [
      | true ↦ Ok (with_script (record task {
        draft = record task.draft { hint = joined_after task.draft.hint words };
      }) [])
      | false ↦ refused n kind.StrayLine
    ]

-- a graft of the test begins
abbrev pub grafting : Result Task Refusal → Result Task Refusal
grafting (Err fault) = Err fault
grafting (Ok task) = Ok (record task { inside = true })

-- a line outside of grafts, by its first word and those behind it
abbrev pub by_first : ℕ → Task → (line first : List ℕ) → List (List ℕ) → Result Task Refusal
by_first n task line first rest =
    elim (same_bytes first (codes "title")) [
      | true ↦ titled n task rest
      | false ↦ elim (same_bytes first (codes "gives")) [
        | true ↦ giving n task rest
        | false ↦ elim (same_bytes first (codes "score")) [
          | true ↦ scoring n task rest
          | false ↦ elim (same_bytes first (codes "test")) [
            | true ↦ tested n (closed task) rest
            | false ↦ elim (same_bytes first (codes "hint")) [
              | true ↦ hinted n task rest
              | false ↦ elim (same_bytes first (codes "disk")) [
                | true ↦ refused n kind.DiskFile
                | false ↦ elim (same_bytes first (codes "graft")) [
                  | true ↦ grafting (kept n task line)
                  | false ↦ kept n task line
                ]
              ]
            ]
          ]
        ]
      ]
    ]

-- a line outside of grafts
abbrev pub outside : ℕ → Task → List ℕ → List (List ℕ) → Result Task Refusal
outside n task line [] = Ok (passed_over task line)
outside n task line (first ∷ rest) = by_first n task line first rest

-- the words that end a graft
abbrev pub is_end : List (List ℕ) → Bool
is_end (word ∷ []) = same_bytes word (codes "end")
is_end _ = false

-- a line inside a graft
abbrev pub within : Task → List ℕ → List (List ℕ) → Task
within task line words = record (with_script task line) { inside = not (is_end words) }

-- what a line adds
abbrev pub with_line : ℕ → Task → List ℕ → Result Task Refusal
with_line n task line =
    elim task.inside [
      | true ↦ Ok (within task line (words_before (parts_of line)))
      | false ↦ outside n task line (words_before (parts_of line))
    ]

-- what these lines add, the first of which has this number; the first line that is refused decides
abbrev pub with_lines : ℕ → Task → List (List ℕ) → Result Task Refusal
with_lines n task [] = Ok task
with_lines n task (line ∷ lines) =
    elim (with_line n task line) [
      | Err fault ↦ Err fault
      | Ok after ↦ with_lines (suc n) after lines
    ]

-- the last test is done; there is a test, and grafts are given
abbrev pub finished : Task → Result Task Refusal
finished task =
    elim (length (closed task).tests == 0) [
      | true ↦ refused 1 kind.NoTest
      | false ↦ elim (task.given == 0) [
        | true ↦ refused 1 kind.NoGives
        | false ↦ Ok (closed task)
      ]
    ]

-- the same, unless a line was refused
abbrev pub ended : Result Task Refusal → Result Task Refusal
ended (Err fault) = Err fault
ended (Ok task) = finished task

-- what a text says whose tabs and carriage returns are spaces
abbrev pub task_of_spaced : List ℕ → Result Task Refusal
task_of_spaced text = ended (with_lines 1 first_task (slice_split (λ b. b == 10) text))

-- what a task says, or the line that is refused and why
abbrev pub task_of : List ℕ → Result Task Refusal
task_of text = task_of_spaced (with_spaces text)
