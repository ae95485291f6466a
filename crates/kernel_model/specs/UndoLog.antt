-- The undo log of a call: its records by level, and what undoing them gives. The records are a list
-- of lists: innermost level first, newest first within a level. What a level found when it began is
-- what remains when the log is undone outward.
use Rattle.std.specs.Prelude.{ℕ, List, [], ◌∷◌, ◌++◌, true, false, nat_le, length, map}
use Rattle.kernel_data.specs.Objects.{Objects, Things}
use Rattle.kernel_model.specs.Access.{Found, undo}
use Rattle.kernel_model.specs.Levels.{Level}

-- the undo log: the records of each level, innermost level first, newest first within a level
abbrev pub undo_log : List Level → List (List Found)
undo_log ls = map (λ (l : Level). l.records) ls

-- undoing a list of records undoes the first one first
abbrev pub undo_all : List Found → Things → Things
undo_all [] w = w
undo_all (i ∷ is) w = undo_all is (undo i w)

-- the same on a whole state
abbrev pub undo_on : List Found → Objects → Objects
undo_on is s = record s { things = undo_all is s.things }

-- What each level found when it began is the state after the records of that level, and of those
-- inside it, are undone.
abbrev pub kept_by_log : Things → List (List Found) → List Things
kept_by_log w [] = []
kept_by_log w (is ∷ log) = let kept = undo_all is w in kept ∷ kept_by_log kept log

-- the records with the number of the level that owns each, newest first
abbrev pub numbered_log : {A : Type 0} → List (List A) → List (ℕ × A)
numbered_log [] = []
numbered_log (is ∷ log) = map (λ i. (length log, i)) is ++ numbered_log log

-- the records of level d and of those further inward, newest first
abbrev pub records_from : {A : Type 0} → ℕ → List (List A) → List A
records_from d [] = []
records_from d (is ∷ log) =
    elim (nat_le d (length log)) [ true ↦ is ++ records_from d log | false ↦ [] ]
