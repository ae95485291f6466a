-- In which order a ranking stands, and what its lines say.
use Rattle.std.specs.Prelude.{◌≡◌, ℕ, ◌+◌, ◌-◌, ◌==◌, Bool, true, false, ◌&&◌, ◌||◌, not, cond, nat_lt}
use Rattle.std.specs.Prelude.{List, ◌++◌, length, map, codes, count_by, decimal, replicate}
use Rattle.std.specs.List.{flat_map}
use Rattle.std.specs.List.Sorted.{IsPermutation, IsSortedBy, IsStableBy}
use Rattle.lab_scoring.specs.declared.entries.Entry.{Entry}
use Rattle.lab_scoring.specs.declared.entries.Standing.{Standing}
use Rattle.lab_scoring.specs.declared.entries.Standing.TheVariants.{Passed, Failed, Refused}

-- ---- the order

-- it passes all tests
abbrev pub is_passed : Standing → Bool
is_passed Passed = true
is_passed Failed = false
is_passed Refused = false

-- a figure is better than another one: more where `most` holds, and else less
abbrev pub is_better : (most : Bool) → (value other : ℕ) → Bool
is_better most value other = cond most (nat_lt other value) (nat_lt value other)

-- an entry stands before another one: it alone passes all tests, or both do and its figure is better
abbrev pub is_before : (most : Bool) → (entry other : Entry) → Bool
is_before most entry other =
    is_passed entry.standing
    && (not (is_passed other.standing) || is_better most entry.value other.value)

-- The entries that were given, ranked: the same ones, each as often; none stands behind one that it
-- is before; and of two of which neither is before the other, that one is first which was given first.
pub record IsRanking (most : Bool) (given ranked : List Entry) : Type 0 where
  pub same : IsPermutation given ranked
  pub ordered : IsSortedBy (is_before most) ranked
  pub stable : IsStableBy (is_before most) given ranked

-- an entry is ranked, with a better figure than this
abbrev pub is_ahead : (most : Bool) → (value : ℕ) → Entry → Bool
is_ahead most value entry = is_passed entry.standing && is_better most entry.value value

-- the place of those with this figure: the first is 1, and equal ones have the same
abbrev pub place : (most : Bool) → (all : List Entry) → (value : ℕ) → ℕ
place most all value = count_by (is_ahead most value) all + 1

-- ---- the lines

-- a text with spaces before it, up to a width
abbrev pub right : (width : ℕ) → (text : List ℕ) → List ℕ
right width text = replicate (width - length text) 32 ++ text

-- a byte of a name, with `?` for a control sign
abbrev pub shown : ℕ → ℕ
shown b = cond (nat_lt b 32 || b == 127) 63 b

-- the line of an entry that is ranked
abbrev pub ranked_line : (place : ℕ) → Entry → List ℕ
ranked_line place entry =
    right 5 (decimal place) ++ (right 14 (decimal entry.value)
    ++ (codes "  " ++ (map shown entry.name.items ++ codes "\n")))

-- the line of an entry that isn't, and why it isn't
abbrev pub unranked_line : Entry → (why : List ℕ) → List ℕ
unranked_line entry why =
    codes "    -             -  " ++ (map shown entry.name.items ++ why)

-- the line of an entry among all that are told
abbrev pub line_of : (most : Bool) → (all : List Entry) → Entry → List ℕ
line_of most all entry =
    elim entry.standing [
      | Passed ↦ ranked_line (place most all entry.value) entry
      | Failed ↦ unranked_line entry (codes ": fails a test\n")
      | Refused ↦ unranked_line entry (codes ": refused\n")
    ]

-- the line above them
abbrev pub head : (most : Bool) → (figure : List ℕ) → List ℕ
head most figure = map shown figure ++ cond most (codes ", most first\n") (codes ", least first\n")

-- A ranking in words: a line for each entry, in their order.
pub record IsTold (most : Bool) (figure : List ℕ) (given : List Entry) (text : List ℕ) : Type 0 where
  pub ranked : List Entry
  pub ranks : IsRanking most given ranked
  pub told : text ≡ head most figure ++ flat_map (line_of most ranked) ranked
