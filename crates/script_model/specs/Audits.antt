-- What `audit` answers: it compares a claim of what a run writes with what the run writes, line by
-- line.
use Rattle.std.specs.Prelude.{ℕ, suc, Bool, true, false, ◌==◌, ◌&&◌, List, [], ◌∷◌, ◌++◌, take, drop}
use Rattle.std.specs.Prelude.{codes, Option, None, Some, option_map}
use Rattle.kernel_data.specs.World.{same_bytes}
use Rattle.kernel_data.specs.Directory.{sample_disk}
use Rattle.graft_code.specs.declared.Keys.{Keys}
use Rattle.script_model.specs.Outcome.{End, outcome, written}
use Rattle.script_model.specs.Session.{whole}
use Rattle.script_model.specs.declared.Verdict.{Verdict}
use Rattle.script_model.specs.declared.Verdict.TheVariants.{Yes, No}

-- ---- the verdict

-- what is left after the last newline is a line too, unless it is empty
abbrev pub last_piece : List ℕ → List (List ℕ)
last_piece [] = []
last_piece (b ∷ bs) = (b ∷ bs) ∷ []

-- the lines of a text, each with its newline, if `line` came before; a last part without a newline
-- is a line too
abbrev pub lines_from : List ℕ → List ℕ → List (List ℕ)
lines_from line [] = last_piece line
lines_from line (b ∷ bs) =
    elim (b == 10) [
      | true ↦ (line ++ b ∷ []) ∷ lines_from [] bs
      | false ↦ lines_from (line ++ b ∷ []) bs
    ]

-- the lines of a text, each with its newline
abbrev pub lines_of : List ℕ → List (List ℕ)
lines_of text = lines_from [] text

-- the number of the first line that differs, or that only one of two lists has; their first lines
-- have number n
abbrev pub first_difference : ℕ → List (List ℕ) → List (List ℕ) → Option ℕ
first_difference n [] [] = None
first_difference n [] (y ∷ ys) = Some n
first_difference n (x ∷ xs) [] = Some n
first_difference n (x ∷ xs) (y ∷ ys) =
    elim (same_bytes x y) [ true ↦ first_difference (suc n) xs ys | false ↦ Some n ]

-- yes if there is no difference
abbrev pub verdict_by : Option ℕ → Verdict
verdict_by None = Yes
verdict_by (Some n) = No n

-- The verdict on a claim of what is written: yes if the claim is right, otherwise the number, from
-- 1, of the first line that differs or that only one of the two has. A line without a newline
-- differs from the same line with one.
abbrev pub verdict : (claim wanted : List ℕ) → Verdict
verdict claim wanted = verdict_by (first_difference 1 (lines_of claim) (lines_of wanted))

-- What a run of this script writes over the sample disk if no disk call fails.
abbrev pub wanted : Keys → List ℕ → List ℕ
wanted keys script = written (outcome whole keys script End sample_disk [])

-- ---- the input

-- the line that separates a script from a claim, with its newline
abbrev pub PARTING : List ℕ
PARTING = codes "%%" ++ 10 ∷ []

-- what is before the first line `%%`, and what is after it, if there is one; `fresh` says that a
-- line begins here
abbrev pub parted_from : (fresh : Bool) → List ℕ → Option (List ℕ × List ℕ)
parted_from fresh [] = None
parted_from fresh (b ∷ bs) =
    elim (fresh && same_bytes (take 3 (b ∷ bs)) PARTING) [
      | true ↦ Some ([], drop 3 (b ∷ bs))
      | false ↦ option_map (λ r. (b ∷ r.0, r.1)) (parted_from (b == 10) bs)
    ]

-- what is before the first line `%%`, and what is after it, if there is one
abbrev pub parted : List ℕ → Option (List ℕ × List ℕ)
parted input = parted_from true input
