-- Whether a run wrote what a test wants: wanted lines in which `..` stands for lines between, `state`
-- wants a row of `raw`, and `limit ran` bounds what `step` took up.
use Rattle.std.specs.Prelude.{ℕ, ◌≡◌, ◌≤◌, ◌==◌, Bool, true, false, ◌||◌, ◌&&◌, not, nat_lt, List, [], ◌∷◌, ◌++◌}
use Rattle.std.specs.Prelude.{filter, length, drop, codes, slice_index_or, Option, None, Some}
use Rattle.std.specs.List.{list_all, list_any, slice_split, starts_with}
use Rattle.kernel_data.specs.World.{same_bytes}
use Rattle.kernel_data.specs.Bytes.{number_of}
use Rattle.lab_reader.specs.declared.sheet.Want.{Want}
use Rattle.lab_lines.specs.declared.pieces.Piece.{Piece}
use Rattle.lab_lines.specs.Wanted.{is_wanted}
use Rattle.lab_lines.specs.AsWanted.{is_refusal, wanted_of}
use Rattle.lab_lines.specs.Written.{writer, written_by}
use Rattle.lab_lines.specs.Told.{lines_of}

-- ---- wanted lines by their form

-- any lines
abbrev pub is_any : List ℕ → Bool
is_any want = same_bytes want (codes "..")

-- a row of `raw`
abbrev pub is_state : List ℕ → Bool
is_state want = starts_with ◌==◌ want (codes "state ")

-- a bound of what `step` took up
abbrev pub is_limit : List ℕ → Bool
is_limit want = starts_with ◌==◌ want (codes "limit ran ")

-- a line, or any lines: what is written has to follow these
abbrev pub is_of_sequence : List ℕ → Bool
is_of_sequence want = not (is_state want) && not (is_limit want)

-- the wanted lines that what is written has to follow
abbrev pub sequence_of : List (List ℕ) → List (List ℕ)
sequence_of wants = filter is_of_sequence wants

-- ---- lines that follow wanted ones

-- the first line is the one that is wanted
abbrev pub is_first : (want : List ℕ) → List (List ℕ) → Bool
is_first want [] = false
is_first want (line ∷ lines) = is_wanted want line

-- all of these lines pass, or what is left of them behind some of the first ones does
abbrev pub some_suffix : (passes : List (List ℕ) → Bool) → List (List ℕ) → Bool
some_suffix passes [] = passes []
some_suffix passes (line ∷ lines) = passes (line ∷ lines) || some_suffix passes lines

-- lines are those that are wanted, each in its place; `..` stands for any lines, none too
abbrev pub follows : (wants lines : List (List ℕ)) → Bool
follows [] lines = length lines == 0
follows (want ∷ wants) lines =
    elim (is_any want) [
      | true ↦ some_suffix (follows wants) lines
      | false ↦ is_first want lines && follows wants (drop 1 lines)
    ]

-- ---- rows and bounds

-- the wanted line that a row of `raw` is
abbrev pub row_of : (want : List ℕ) → List ℕ
row_of want = codes "* raw " ++ drop 6 want

-- the first number is at most the second
abbrev pub is_at_most : Option ℕ → Option ℕ → Bool
is_at_most None most = false
is_at_most (Some n) None = false
is_at_most (Some n) (Some most) = not (nat_lt most n)

-- a line says of no more instructions than a bound
abbrev pub is_within : (want line : List ℕ) → Bool
is_within want line =
    not (is_wanted (codes "* ran *") line)
    || is_at_most (number_of (slice_index_or (slice_split (λ b. b == 32) line) 2 []))
    (number_of (drop 10 want))

-- a row and a bound hold of lines
abbrev pub is_met : (lines : List (List ℕ)) → (want : List ℕ) → Bool
is_met lines want =
    elim (is_state want) [
      | true ↦ list_any (is_wanted (row_of want)) lines
      | false ↦ elim (is_limit want) [
        | true ↦ list_all (is_within want) lines
        | false ↦ true
      ]
    ]

-- ---- a line of the script, and all of them

-- lines follow those that are wanted; where none are, no refusal is among them
abbrev pub is_in_sequence : (sequence lines : List (List ℕ)) → Bool
is_in_sequence [] lines = not (list_any is_refusal lines)
is_in_sequence (want ∷ wants) lines = follows (want ∷ wants) lines

-- the lines of a line of the script are those that are wanted of it
abbrev pub is_graded : (wants lines : List (List ℕ)) → Bool
is_graded wants lines =
    is_in_sequence (sequence_of wants) lines && list_all (is_met lines) wants

-- the line of the script to which this wanted line belongs wrote what is wanted of it
abbrev pub is_owner_graded : List Want → (last : ℕ) → List Piece → (owner : ℕ) → Bool
is_owner_graded wants last pieces owner =
    is_graded (wanted_of owner wants) (written_by owner last pieces)

-- something is wanted of this line of the script
abbrev pub has_wants : List Want → (owner : ℕ) → Bool
has_wants wants owner = list_any (λ (w : Want). w.owner == owner) wants

-- a piece belongs to a line of which something is wanted, or has no refusal
abbrev pub is_allowed : List Want → (last : ℕ) → Piece → Bool
is_allowed wants last piece =
    has_wants wants (writer last piece) || not (list_any is_refusal (lines_of piece.bytes.now))

-- each line of the script wrote what is wanted of it, and no other line a refusal
abbrev pub is_passed : List Want → (last : ℕ) → List Piece → Bool
is_passed wants last pieces =
    list_all (λ (w : Want). is_owner_graded wants last pieces w.owner) wants
    && list_all (is_allowed wants last) pieces
