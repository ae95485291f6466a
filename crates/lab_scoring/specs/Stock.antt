-- The script of a test without the grafts of a submission.
use Rattle.std.specs.Prelude.{ℕ, ◌==◌, Bool, false, ◌&&◌, ◌||◌, not, cond, nat_lt}
use Rattle.std.specs.Prelude.{List, [], ◌∷◌, ◌++◌, length, codes, slice_range, Option, None, Some}
use Rattle.std.specs.List.{list_any, slice_split}
use Rattle.kernel_data.specs.World.{same_bytes}
use Rattle.lab_places.specs.Places.{word_number}
use Rattle.lab_places.specs.declared.spans.Span.{Span}

-- the bytes of a span; nothing where it isn't in the line
abbrev pub bytes_of : (line : List ℕ) → Span → List ℕ
bytes_of line span =
    cond (not (nat_lt span.to span.from) && not (nat_lt (length line) span.to))
    (slice_range line span.from span.to) []

-- the bytes of a word that was looked for; nothing where there is none
abbrev pub bytes_found : (line : List ℕ) → Option Span → List ℕ
bytes_found line None = []
bytes_found line (Some span) = bytes_of line span

-- the k-th word of a line, from 0; nothing past their end
abbrev pub word_in : (line : List ℕ) → (k : ℕ) → List ℕ
word_in line k = bytes_found line (word_number line 0 (length line) k)

-- a line loads the image of a graft that a submission gives
abbrev pub loads_given : (gives : List (List ℕ)) → (line : List ℕ) → Bool
loads_given gives line =
    same_bytes (word_in line 0) (codes "image")
    && list_any (λ (given : List ℕ). same_bytes (word_in line 2) given) gives

-- a line is a wanted line of the one above it
abbrev pub is_wanted : (line : List ℕ) → Bool
is_wanted line = same_bytes (word_in line 0) (codes "=")

-- a line is left out, behind one of which this says whether it is
abbrev pub is_left_out : (gives : List (List ℕ)) → (above : Bool) → (line : List ℕ) → Bool
is_left_out gives above line = loads_given gives line || (above && is_wanted line)

-- a line, or an empty one in its place
abbrev pub kept_line : (is_out : Bool) → (line : List ℕ) → List ℕ
kept_line is_out line = cond is_out (10 ∷ []) (line ++ 10 ∷ [])

-- these lines, with empty ones for those that are left out
abbrev pub kept_lines : (gives : List (List ℕ)) → (above : Bool) → List (List ℕ) → List ℕ
kept_lines gives above [] = []
kept_lines gives above (line ∷ lines) =
    kept_line (is_left_out gives above line) line ++ kept_lines gives (is_left_out gives above line) lines

-- a script with empty lines for those that load what a submission gives, and for their wanted lines
abbrev pub stock_of : (gives : List (List ℕ)) → (script : List ℕ) → List ℕ
stock_of gives script = kept_lines gives false (slice_split (λ b. b == 10) script)
