-- A function of two numbers that is one value everywhere but at some places, as rows.
use Rattle.std.specs.Prelude.{ℕ, suc, Bool, cond, ◌&&◌, ◌==◌, List, [], ◌∷◌, Option, None, Some}
use Rattle.std.specs.Prelude.{find, slice_index}
use Rattle.audit_table.specs.declared.Row.{Row}

-- a row is of this place
abbrev pub is_at : {A : Type 0} → ℕ → ℕ → Row A → Bool
is_at i k r = r.first == i && r.second == k

-- the value of a row, if there is one
abbrev pub value_in : {A : Type 0} → A → Option (Row A) → A
value_in d None = d
value_in d (Some r) = r.value

-- the value of each place: that of its first row, and the default where it has none
abbrev pub table_of : {A : Type 0} → A → List (Row A) → ℕ → ℕ → A
table_of d rs i k = value_in d (find (is_at i k) rs)

-- how many rows stand before the first of a place
abbrev pub rows_before : {A : Type 0} → ℕ → ℕ → List (Row A) → ℕ
rows_before i k [] = 0
rows_before i k (r ∷ rs) = cond (is_at i k r) 0 (suc (rows_before i k rs))

-- a function of one number: the places are those with a 0 behind
abbrev pub column_of : {A : Type 0} → A → List (Row A) → ℕ → A
column_of d rs i = table_of d rs i 0

-- a function whose places with this first number have the default
abbrev pub row_cleared : {A : Type 0} → ℕ → A → (ℕ → ℕ → A) → ℕ → ℕ → A
row_cleared i d t j l = cond (j == i) d (t j l)

-- a list of numbers by place, 0 past its end
abbrev pub by_place : List ℕ → ℕ → ℕ
by_place xs = λ k. slice_index xs k
