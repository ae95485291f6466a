-- Levels by number, counted from the outermost.
use Rattle.std.proofs.Common.{◌≡◌, ℕ, ◌==◌, Bool, true, false, List, ◌∷◌, length, arith, sym, ap}
use Rattle.std.proofs.lemmas.Bool.Decides.{nat_tests}
use Rattle.kernel_model.specs.declared.Cause.{Cause}
use Rattle.kernel_model.specs.Objects.{Objects}
use Rattle.kernel_model.specs.World.{World}
use Rattle.kernel_model.specs.Levels.{Level, Outcome, drop_innermost, drop_level}

-- a level is dropped, or one further outside
abbrev dropped_if : World → Objects → Level → List Level → ℕ → Cause → Bool → Outcome
dropped_if v w l ls d cause b = elim b [
  | true ↦ drop_innermost v w l ls cause
  | false ↦ drop_level v
      w ls d cause
]

-- the innermost level has this number
pub dropped_here : (v : World) (w : Objects) (l : Level) (ls : List Level) (d : ℕ) (cause : Cause) →
    length ls ≡ d → drop_innermost v w l ls cause ≡ drop_level v w (l ∷ ls) d cause
dropped_here v w l ls d cause is =
    let e : (length ls == d) ≡ true = grind (arith, nat_tests, is) in
    sym (ap (dropped_if v w l ls d cause) e)

-- it has another
pub dropped_outside : (v : World) (w : Objects) (l : Level) (ls : List Level) (d : ℕ) (cause : Cause) →
    (length ls == d) ≡ false → drop_level v w ls d cause ≡ drop_level v w (l ∷ ls) d cause
dropped_outside v w l ls d cause e = sym (ap (dropped_if v w l ls d cause) e)
