-- How far a claim was compared: byte by byte, as the code does it.
use Rattle.std.specs.Prelude.{◌≡◌, ◌≤◌, ℕ, ◌+◌, Bool, true, false, cond, ◌==◌, List, [], ◌∷◌}
use Rattle.std.specs.Prelude.{drop, length}
use Rattle.script_model.specs.Audits.{verdict}
use Rattle.run_audit.specs.declared.Place.{Place}
use Rattle.script_model.specs.declared.Verdict.{Verdict}
use Rattle.script_model.specs.declared.Verdict.TheVariants.{Yes, No}

-- what is left of the claim, the number of the line that it begins in, and whether that line differs
pub record Progress : Type 0 where
  pub rest : List ℕ
  pub line : ℕ
  pub differs : Bool

-- before the first byte
abbrev pub begun : List ℕ → Progress
begun claim = record { rest = claim; line = 1; differs = false }

-- the line differs
abbrev pub differing : Progress → Progress
differing s = record s { differs = true }

-- one byte of what is written, beside what is left of the claim
abbrev pub beside : ℕ → List ℕ → Progress → Progress
beside b [] s = differing s
beside b (c ∷ cs) s =
    elim (c == b) [
      | true ↦ record { rest = cs; line = s.line + cond (b == 10) 1 0; differs = false }
      | false ↦ differing s
    ]

-- after one byte of what is written; once a line differs, no more is looked at
abbrev pub after_byte : ℕ → Progress → Progress
after_byte b s = elim s.differs [ true ↦ s | false ↦ beside b s.rest s ]

-- after more bytes of what is written
abbrev pub after_bytes : List ℕ → Progress → Progress
after_bytes [] s = s
after_bytes (b ∷ bs) s = after_bytes bs (after_byte b s)

-- a claim of which nothing is left is right
abbrev pub at_end : List ℕ → ℕ → Verdict
at_end [] line = Yes
at_end (c ∷ cs) line = No line

-- the verdict once all that is written was compared
abbrev pub concluded : Progress → Verdict
concluded s = elim s.differs [ true ↦ No s.line | false ↦ at_end s.rest s.line ]

-- how far the code has compared this claim
abbrev pub progress_of : List ℕ → Place → Progress
progress_of claim p = record { rest = drop p.at claim; line = p.line; differs = p.differs }

-- a place is within a claim, and in a line that may be there
pub record IsWithin (claim : List ℕ) (p : Place) : Type 0 where
  pub at : p.at ≤ length claim
  pub line : p.line ≤ p.at + 1

-- comparing byte by byte gives the verdict
abbrev pub ComparingDecides : Type 0
ComparingDecides =
    (claim wanted : List ℕ) → concluded (after_bytes wanted (begun claim)) ≡ verdict claim wanted

-- the verdict is yes exactly where the claim is what is written
pub record YesIsEqual : Type 0 where
  pub equal : (claim wanted : List ℕ) → verdict claim wanted ≡ Yes → claim ≡ wanted
  pub yes : (claim : List ℕ) → verdict claim claim ≡ Yes
