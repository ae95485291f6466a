-- The bytes of the lines that are written at once.
use Rattle.std.specs.Prelude.{ℕ, List, cond, length, ◌==◌}

-- the first lines alone where there are no bytes of all lines, and else these
abbrev pub first_or_all : (first all : List ℕ) → List ℕ
first_or_all first all = cond (length all == 0) first all
