-- The settings of a lab file: its keys and its disk.
use Rattle.std.specs.Prelude.{ℕ, Bool, true, false, cond, ◌||◌, is_some, List, [], ◌∷◌, replicate}
use Rattle.std.specs.Prelude.{codes, Option, None, Some, Result, Ok, Err}
use Rattle.graft_loader.specs.Keys.{keys_of}
use Rattle.script_model.specs.declared.Keys.{Keys}
use Rattle.script_model.specs.World.{same_bytes}
use Rattle.lab_reader.specs.declared.faults.LabKind.TheVariants as kind
use Rattle.lab_reader.specs.Faults.{Refusal, refused}
use Rattle.lab_reader.specs.Words.{numbers_of}

-- The word that writes the keys, and whether a line said it; the file that is the disk, if one is;
-- which calls of the disk fail, and whether a line said it.
pub record Settings : Type 0 where
  pub word : List ℕ
  pub keyed : Bool
  pub disk : Option (List ℕ)
  pub failing : Bool
  pub fails : List ℕ

-- the key where no line says it: 64 zeros
abbrev pub zeros : List ℕ
zeros = replicate 64 48

-- where no line sets anything
abbrev pub first_settings : Settings
first_settings = record { word = zeros; keyed = false; disk = None; failing = false; fails = [] }

-- keys by what their word says
abbrev pub keyed_by : ℕ → Settings → List ℕ → Option Keys → Result Settings Refusal
keyed_by n s word None = refused n kind.BadKey
keyed_by n s word (Some keys) = Ok (record s { word = word; keyed = true })

-- a line of keys: once, and before the first image that is sealed
abbrev pub with_key : ℕ → (late : Bool) → Settings → List (List ℕ) → Result Settings Refusal
with_key n late s (word ∷ []) =
    elim s.keyed [
      | true ↦ refused n kind.KeyTwice
      | false ↦ elim late [
        | true ↦ refused n kind.KeyLate
        | false ↦ keyed_by n s word (keys_of word)
      ]
    ]
with_key n late s _ = refused n kind.BadKey

-- a line that names the file of the disk
abbrev pub with_disk : ℕ → Settings → List (List ℕ) → Result Settings Refusal
with_disk n s (path ∷ []) =
    elim (is_some s.disk) [
      | true ↦ refused n kind.DiskTwice
      | false ↦ elim s.failing [
        | true ↦ refused n kind.FailsOnFile
        | false ↦ Ok (record s { disk = Some path })
      ]
    ]
with_disk n s _ = refused n kind.BadDisk

-- calls that fail, if they are numbers
abbrev pub fails_by : ℕ → Settings → Option (List ℕ) → Result Settings Refusal
fails_by n s None = refused n kind.BadFails
fails_by n s (Some fails) = Ok (record s { failing = true; fails = fails })

-- the calls of the disk that fail, behind `fail disk`
abbrev pub with_fails_of : ℕ → Settings → List ℕ → Result Settings Refusal
with_fails_of n s word =
    elim s.failing [
      | true ↦ refused n kind.FailsTwice
      | false ↦ elim (is_some s.disk) [
        | true ↦ refused n kind.FailsOnFile
        | false ↦ fails_by n s (numbers_of word)
      ]
    ]

-- a line that says which calls of the disk fail
abbrev pub with_fails : ℕ → Settings → List (List ℕ) → Result Settings Refusal
with_fails n s (first ∷ word ∷ []) =
    elim (same_bytes first (codes "disk")) [
      | true ↦ with_fails_of n s word
      | false ↦ refused n kind.BadFails
    ]
with_fails n s _ = refused n kind.BadFails
