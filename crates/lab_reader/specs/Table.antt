-- Grafts found by their names.
use Rattle.std.specs.Prelude.{◌≡◌, ℕ, List}
use Rattle.std.specs.Map.{lookup}
use Rattle.std.specs.Global.{Vec}
use Rattle.script_model.specs.World.{same_bytes}
use Rattle.lab_reader.specs.Grafts.{Graft, place_of}

-- what entries have at a name is the place of the first graft of this name
abbrev pub FindsPlaces : List (Vec ℕ × ℕ) → List Graft → Type 0
FindsPlaces entries grafts =
    (name : List ℕ) →
    lookup (λ (k : Vec ℕ). same_bytes name k.items) entries ≡ place_of name grafts
