-- When each line of a script wrote what is wanted of it.
use Rattle.std.specs.Prelude.{◌≡◌, ◌≤◌, ℕ, ◌==◌, ⊤, Bool, true, false, not, ◌||◌, nat_lt, List, []}
use Rattle.std.specs.Prelude.{◌∷◌, map, filter, length, codes}
use Rattle.std.specs.Cmp.Lexicographic.{pointwise}
use Rattle.std.specs.List.{list_any, starts_with}
use Rattle.lab_reader.specs.declared.sheet.Want.{Want}
use Rattle.lab_lines.specs.declared.pieces.Piece.{Piece}
use Rattle.lab_lines.specs.Wanted.{is_wanted}
use Rattle.lab_lines.specs.Written.{Line, writer, written_by}

-- a line that says that a line of the script is refused
abbrev pub is_refusal : List ℕ → Bool
is_refusal line = starts_with ◌==◌ line (codes "script ")

-- a line of the script wrote what is wanted of it: where lines are wanted, those and no other, each
-- in its place; else anything but a refusal
abbrev pub is_as_wanted : (wants lines : List (List ℕ)) → Bool
is_as_wanted [] lines = not (list_any is_refusal lines)
is_as_wanted (want ∷ wants) lines = pointwise is_wanted (want ∷ wants) lines

-- the lines that are wanted of this line of the script
abbrev pub wanted_of : (owner : ℕ) → List Want → List (List ℕ)
wanted_of owner wants =
    map (λ (w : Want). w.text) (filter (λ (w : Want). w.owner == owner) wants)

-- each line of the script wrote what is wanted of it
abbrev pub AsWanted : List Want → (last : ℕ) → List Piece → Type 0
AsWanted wants last pieces =
    (owner : ℕ) → is_as_wanted (wanted_of owner wants) (written_by owner last pieces) ≡ true

-- numbers from this one on, none of which is less than the one before it
abbrev pub AreInOrder : (from : ℕ) → List ℕ → Type 0
AreInOrder from [] = ⊤
AreInOrder from (n ∷ ns) = (from ≤ n) × AreInOrder n ns

-- the wanted lines are in the order of the lines of the script to which they belong; these are
-- numbered from 1
abbrev pub WantsInOrder : List Want → Type 0
WantsInOrder wants = AreInOrder 1 (map (λ (w : Want). w.owner) wants)

-- pieces are in the order of the lines of the script to which they belong, from this one on
abbrev pub PiecesInOrder : (from last : ℕ) → List Piece → Type 0
PiecesInOrder from last pieces = AreInOrder from (map (writer last) pieces)

-- ---- the same in one pass

-- a line for which nothing is wanted is one too many where it is of the line of the script of which
-- the last wanted one was, or a refusal
abbrev pub is_extra : (owner : ℕ) → Line → Bool
is_extra owner line = line.owner == owner || is_refusal line.text

-- what is left in one pass is as wanted, where the last wanted line before it was of this owner
abbrev pub rest_as_wanted : (owner : ℕ) → List Want → List Line → Bool
rest_as_wanted owner wants [] = length wants == 0
rest_as_wanted owner [] (line ∷ lines) =
    elim (is_extra owner line) [ true ↦ false | false ↦ rest_as_wanted owner [] lines ]
rest_as_wanted owner (want ∷ wants) (line ∷ lines) =
    elim (nat_lt want.owner line.owner) [
      | true ↦ false
      | false ↦ elim (nat_lt line.owner want.owner) [
        | true ↦ elim (is_extra owner line) [
          | true ↦ false
          | false ↦ rest_as_wanted owner (want ∷ wants) lines
        ]
        | false ↦ elim (is_wanted want.text line.text) [
          | true ↦ rest_as_wanted want.owner wants lines
          | false ↦ false
        ]
      ]
    ]
