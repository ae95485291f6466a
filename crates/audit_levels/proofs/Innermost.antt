-- What is said of the innermost level and any outside it holds for the levels of a call.
use Rattle.std.proofs.Common.{◌≡◌, ◌≤◌, ℕ, List, [], ◌∷◌, length, get_or, arith, ap, ◌∙◌}
use Rattle.kernel_model.specs.declared.Need.{Need}
use Rattle.kernel_model.specs.Objects.{Accounts}
use Rattle.kernel_model.specs.World.{World, ImageTable}
use Rattle.kernel_model.specs.Levels as levels
use Rattle.kernel_model.specs.GraftStep.{next_needs}
use Rattle.audit_levels.specs.declared.Level.{Level}
use Rattle.audit_levels.specs.Levels.{level_of, levels_of}

pub needs_of_first : (bytes : ℕ → List ℕ) (v : World) (images : ImageTable) (a : Accounts)
    (xs : List Level) (l : Level) (ns : List Need) →
    1 ≤ length xs → l ≡ get_or xs 0 l →
    ((outer : List levels.Level) → ns ≡ next_needs v images a (level_of bytes l ∷ outer)) →
    ns ≡ next_needs v images a (levels_of bytes xs)
needs_of_first bytes v images a [] l ns le is said = absurd (omega (arith, le))
needs_of_first bytes v images a (y ∷ ys) l ns le is said =
    said (levels_of bytes ys)
    ∙ ap (λ (k : Level). next_needs v images a (level_of bytes k ∷ levels_of bytes ys)) is
