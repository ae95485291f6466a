-- How what a run wrote is told: the kernel's lines as they are, and lines of `lab` by their marks.
use Rattle.std.specs.Prelude.{◌≡◌, ℕ, ◌-◌, ◌==◌, ◌&&◌, Bool, not, cond, nat_lt, List, [], ◌∷◌, ◌++◌}
use Rattle.std.specs.Prelude.{length, slice_index, filter, flat_map, codes, decimal, Option, None}
use Rattle.std.specs.Prelude.{Some, is_some, All, ⊤}
use Rattle.std.specs.List.{slice_split, list_any}
use Rattle.lab_words.specs.Forms.{form_of, is_told}
use Rattle.lab_lines.specs.declared.pieces.Piece.{Piece}

-- a line that isn't empty
abbrev pub is_line : List ℕ → Bool
is_line line = not (length line == 0)

-- the lines of a text, empty ones left out
abbrev pub lines_of : List ℕ → List (List ℕ)
lines_of text = filter is_line (slice_split (λ b. b == 10) text)

-- a text whose last byte is a newline
abbrev pub ends_line : List ℕ → Bool
ends_line text = not (length text == 0) && slice_index text (length text - 1) == 10

-- the lines of pieces, one piece behind the other
abbrev pub lines_in : List Piece → List (List ℕ)
lines_in pieces = flat_map (λ (p : Piece). lines_of p.bytes.now) pieces

-- a text that may stand in a line: `?` for one with a newline in it
abbrev pub one_line : List ℕ → List ℕ
one_line text = cond (list_any (λ b. b == 10) text) (codes "?") text

-- spaces before a number, up to four bytes in all
abbrev pub spaces_before : ℕ → List ℕ
spaces_before n =
    cond (nat_lt n 10) (codes "   ")
    (cond (nat_lt n 100) (codes "  ") (cond (nat_lt n 1000) (codes " ") []))

-- a line of what is told: one of the file, the head of rows, what stands above the lines that
-- belong to no line of the file, or a line that the kernel wrote, with words beside it
pub data Told : Type 0 where
  FileLine : (number : ℕ) → (text : List ℕ) → Told
  RowHead : (kind about : List ℕ) → Told
  End : Told
  Wrote : (line : List ℕ) → (words : Option (List ℕ)) → Told

-- words behind a line
abbrev pub beside : Option (List ℕ) → List ℕ
beside None = []
beside (Some words) = codes "    -- " ++ one_line words

-- a line as it is told: one of the kernel stands behind eight spaces, unchanged; no line of the
-- file does, and a head has `--` there
abbrev pub shown : Told → List ℕ
shown (FileLine number text) =
    spaces_before number ++ decimal number ++ codes "  " ++ one_line text ++ 10 ∷ []
shown (RowHead kind about) =
    codes "        -- " ++ one_line kind ++ one_line about ++ 10 ∷ []
shown End = codes " end" ++ 10 ∷ []
shown (Wrote line words) = codes "        " ++ line ++ beside words ++ 10 ∷ []

-- one line more is told
abbrev pub Adds : (old new : List ℕ) → Told → Type 0
Adds old new told = new ≡ old ++ shown told

-- the line of the kernel that is told, if it is one
abbrev pub written_in : Told → List (List ℕ)
written_in (FileLine number text) = []
written_in (RowHead kind about) = []
written_in End = []
written_in (Wrote line words) = line ∷ []

-- words stand beside a line of the kernel where its form is told in words, and nowhere else
abbrev pub HasWords : Told → Type 0
HasWords (FileLine number text) = ⊤
HasWords (RowHead kind about) = ⊤
HasWords End = ⊤
HasWords (Wrote line words) = is_some words ≡ is_told (form_of line)

-- Behind a text stand lines more, and with them these lines of the kernel are told, each as it is,
-- with its words and in their order, but for the rest of them.
pub record Tells (old new : List ℕ) (lines rest : List (List ℕ)) : Type 0 where
  pub parts : List Told
  pub worded : All HasWords parts
  pub text_is : new ≡ old ++ flat_map shown parts
  pub lines_are : lines ≡ flat_map written_in parts ++ rest

-- the text tells all lines of what was written, each as it is, with its words and in their order,
-- and beside them lines of `lab` alone
abbrev pub TellsAll : (text written : List ℕ) → Type 0
TellsAll text written = Tells [] text (lines_of written) []
