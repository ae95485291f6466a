-- Lines that were written, and the lines of the script to which they belong.
use Rattle.std.specs.Prelude.{ℕ, ◌==◌, cond, List, [], ◌∷◌, ◌++◌, map, flat_map, filter}
use Rattle.lab_lines.specs.declared.pieces.Piece.{Piece}
use Rattle.lab_lines.specs.Told.{is_line, lines_of, lines_in}

-- a line that was written, and the number of the line of the script to which it belongs
pub record Line : Type 0 where
  pub owner : ℕ
  pub text : List ℕ

-- a text as a line of this owner
abbrev pub line_by : (owner : ℕ) → List ℕ → Line
line_by owner text = record { owner = owner; text = text }

-- lines with one more behind them, unless it is empty
abbrev pub with_line : (owner : ℕ) → List ℕ → List Line → List Line
with_line owner text lines = cond (is_line text) (lines ++ line_by owner text ∷ []) lines

-- the line of the script to which a piece belongs: the end of a run belongs to the last one
abbrev pub writer : (last : ℕ) → Piece → ℕ
writer last piece = cond (piece.owner == 0) last piece.owner

-- all lines of pieces, in their order
abbrev pub all_lines : (last : ℕ) → List Piece → List Line
all_lines last pieces =
    flat_map (λ (p : Piece). map (line_by (writer last p)) (lines_of p.bytes.now)) pieces

-- the lines that this line of the script wrote
abbrev pub written_by : (owner last : ℕ) → List Piece → List (List ℕ)
written_by owner last pieces =
    lines_in (filter (λ (p : Piece). writer last p == owner) pieces)
