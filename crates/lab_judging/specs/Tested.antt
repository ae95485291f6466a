-- When the run of a lab file wrote what is wanted of it.
use Rattle.std.specs.Prelude.{◌≡◌, ◌≤◌, ◌<◌, ◌⊎◌, ℕ, List, All, length}
use Rattle.script_model.specs.World.{Image}
use Rattle.lab_reader.specs.declared.sheet.Want.{Want}
use Rattle.lab_reader.specs.Lab.{Lab}
use Rattle.lab_lowering.specs.Lowering.{Lowers}
use Rattle.lab_lines.specs.declared.pieces.Piece.{Piece}
use Rattle.lab_lines.specs.Told.{lines_in, lines_of}
use Rattle.lab_lines.specs.AsWanted.{AsWanted, PiecesInOrder}
use Rattle.lab_watch.specs.declared.running.Ran.{Ran}
use Rattle.lab_files.specs.Runs.{WasRun}

-- the run of a lab file came to the end of its script, or to a refused line; its lines are those of
-- these pieces, each of which belongs to a line of the script, and so judged they are
pub record Wrote (Judged : List Want → (last : ℕ) → List Piece → Type 0) (lab : Lab)
    (script : List ℕ) : Type 0 where
  pub ran : Ran
  pub run : WasRun lab.settings.word script ran
  pub ended : (ran.status ≡ 0) ⊎ (ran.status ≡ 2)
  pub pieces : List Piece
  pub whole : lines_in pieces ≡ lines_of ran.lines.got
  pub ordered : PiecesInOrder 1 lab.sheet.last pieces
  pub judged : Judged lab.sheet.wants lab.sheet.last pieces

-- something isn't as wanted
abbrev pub IsOther : List Want → (last : ℕ) → List Piece → Type 0
IsOther wants last pieces = ¬ (AsWanted wants last pieces)

-- the run wrote what is wanted
abbrev pub WroteWanted : Lab → (script : List ℕ) → Type 0
WroteWanted lab script = Wrote AsWanted lab script

-- it didn't
abbrev pub WroteOther : Lab → (script : List ℕ) → Type 0
WroteOther lab script = Wrote IsOther lab script

-- a text is a lab file, which wants a line at least, and whose run is judged so
pub record Tested (Judged : List Want → (last : ℕ) → List Piece → Type 0) (text : List ℕ) : Type 0 where
  pub lab : Lab
  pub images : List Image
  pub script : List ℕ
  pub lowers : Lowers text lab images script
  pub wants : 0 < length lab.sheet.wants
  pub wrote : Wrote Judged lab script

-- there is a lab file whose run wrote what is wanted
pub record OnePasses : Type 0 where
  pub text : List ℕ
  pub passes : Tested AsWanted text

-- there is one whose run didn't
pub record OneFails : Type 0 where
  pub text : List ℕ
  pub fails : Tested IsOther text

-- of this many lab files each run wrote what is wanted
pub record AllPass (count : ℕ) : Type 0 where
  pub texts : List (List ℕ)
  pub counted : length texts ≡ count
  pub pass : All (Tested AsWanted) texts

-- a status before and behind one more file
pub record Adds (old new : ℕ) : Type 0 where
  pub passed : new ≡ 0 → (old ≡ 0) × OnePasses
  pub failed : new ≡ 1 → (old ≡ 1) ⊎ OneFails
