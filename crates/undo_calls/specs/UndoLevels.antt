-- What each call makes of the levels of an undo log, and the records of all levels in order of age.
use Rattle.std.specs.Prelude.{◌≡◌, ℕ, suc, ◌-◌, ◌≤◌, ◌==◌, ◌&&◌, Bool, true, false, cond, nat_le}
use Rattle.std.specs.Prelude.{List, [], ◌∷◌, ◌++◌, Option, Some, None, length, map, reverse, take}
use Rattle.std.specs.Prelude.{drop, slice_index_or}
use Rattle.kernel_model.specs.declared.Inverse.{Inverse}
use Rattle.kernel_model.specs.declared.Inverse.TheVariants.{Segment}
use Rattle.kernel_model.specs.Access.{Found}
use Rattle.kernel_model.specs.UndoLog.{numbered_log}
use Rattle.ram_space.specs.Tables.{Table, by_place}

-- ---- the levels: innermost level first, newest record first within a level

-- a record comes to the innermost level
abbrev pub recorded : {A : Type 0} → A → List (List A) → List (List A)
recorded i [] = []
recorded i (is ∷ log) = (i ∷ is) ∷ log

-- the innermost level's records go to the level outside it; without one they are forgotten
abbrev pub merged : {A : Type 0} → List (List A) → List (List A)
merged [] = []
merged (is ∷ []) = []
merged (is ∷ js ∷ log) = (is ++ js) ∷ log

-- the records of the innermost level, newest first
abbrev pub innermost : {A : Type 0} → List (List A) → List A
innermost [] = []
innermost (is ∷ log) = is

-- the first of some records, if there is one
abbrev pub first_of : {A : Type 0} → List A → Option A
first_of [] = None
first_of (i ∷ is) = Some i

-- the newest record of the innermost level, if it has one
abbrev pub newest : {A : Type 0} → List (List A) → Option A
newest log = first_of (innermost log)

-- the innermost level without its newest record
abbrev pub without_newest : {A : Type 0} → List (List A) → List (List A)
without_newest [] = []
without_newest (is ∷ log) = drop 1 is ∷ log

-- the records of all levels with the number of the level that owns each, oldest first
abbrev pub by_age : {A : Type 0} → List (List A) → List (ℕ × A)
by_age log = reverse (numbered_log log)

-- the records of all levels, oldest first
abbrev pub records_of : {A : Type 0} → List (List A) → List A
records_of log = map (λ r. r.1) (by_age log)

-- the levels that own them, in the same order
abbrev pub owners_of : {A : Type 0} → List (List A) → List ℕ
owners_of log = map (λ r. r.0) (by_age log)

-- ---- records with and without bytes

-- a record of the log: an inverse, and for a kept segment the bytes from before, if there were any
pub record Logged : Type 0 where
  pub inverse : Inverse
  pub bytes : Option (List ℕ)

-- what its change found
abbrev pub found_of : Logged → Found
found_of r = record { inverse = r.inverse; bytes = by_place r.bytes }

-- the log as the definitions have it
abbrev pub log_of : List (List Logged) → List (List Found)
log_of log = map (λ (rs : List Logged). map found_of rs) log

-- the record of an accessor's change
abbrev pub bare : Inverse → Logged
bare i = record { inverse = i; bytes = None }

-- the record of a kept segment: the graft whose it is, and the bytes from before
abbrev pub segment_logged : (q pt : ℕ) → Option (List ℕ) → Logged
segment_logged q pt bytes = record { inverse = Segment q pt; bytes = bytes }

-- what all records put back, oldest first, without the bytes of kept segments
abbrev pub inverses_of : List (List Logged) → List Inverse
inverses_of log = map (λ (r : Logged). r.inverse) (records_of log)

-- an inverse has no bytes beside it: it is of an accessor's change, and of no kept segment
abbrev pub is_bare : Inverse → Bool
is_bare (Segment q pt) = false
is_bare _ = true

-- an inverse with the bytes of its place, which count where it is of a kept segment
abbrev pub logged_at : Inverse → Option (List ℕ) → Logged
logged_at i bytes = record { inverse = i; bytes = cond (is_bare i) None bytes }

-- the records of inverses, the first of place n, with the segments of the same numbers
abbrev pub logged_from : ℕ → List Inverse → Table → List Logged
logged_from n [] kept = []
logged_from n (i ∷ is) kept =
    logged_at i (slice_index_or kept n None) ∷ logged_from (suc n) is kept

-- the records of inverses, oldest first, with the segments of the same numbers
abbrev pub logged_in : List Inverse → Table → List Logged
logged_in is kept = logged_from 0 is kept

-- ---- how a stack keeps them: of each level a mark, how many records there were when it began

-- the levels that marks, innermost first, cut from records, newest first
abbrev pub cut : {A : Type 0} → List ℕ → List A → List (List A)
cut [] rs = []
cut (m ∷ ms) rs = take (length rs - m) rs ∷ cut ms (drop (length rs - m) rs)

-- marks, innermost first, are in order, within so many records, and the outermost level has all
-- from the first one on
abbrev pub are_marks : List ℕ → ℕ → Bool
are_marks [] n = n == 0
are_marks (m ∷ ms) n = nat_le m n && are_marks ms m

-- the innermost level that began at a place in the order of age or before it, 0 where none did
abbrev pub owner_by : List ℕ → ℕ → ℕ
owner_by [] i = 0
owner_by (m ∷ ms) i = cond (nat_le m i) (length ms) (owner_by ms i)

-- the levels of marks and records, both oldest first
abbrev pub levels_of : {A : Type 0} → List ℕ → List A → List (List A)
levels_of marks records = cut (reverse marks) (reverse records)

-- marks and records of a stack, both oldest first
pub record IsStack {A : Type 0} (marks : List ℕ) (records : List A) : Type 0 where
  pub in_order : are_marks (reverse marks) (length records) ≡ true
  pub few_levels : length marks ≤ 4
  pub few : length records ≤ 64
