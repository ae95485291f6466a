-- Lines that are walked through, one more.
use Rattle.std.proofs.Common.{◌≡◌, ◌∙◌, ℕ, suc, ◌+◌, ◌<◌, Bool, false, List, [], ◌∷◌, length, drop}
use Rattle.std.proofs.Common.{get_or, refl, sym, ap, add-one}
use Rattle.std.proofs.Math.Seq.{drop-cons}
use Rattle.lab_matching.specs.Matching.{some_suffix}

behind : (passes : List (List ℕ) → Bool) (line : List ℕ) (lines : List (List ℕ)) →
    passes (line ∷ lines) ≡ false →
    some_suffix passes (line ∷ lines) ≡ some_suffix passes lines
behind passes line lines h = rw (some_suffix, h) refl

-- what is left doesn't pass
pub passes_behind : (passes : List (List ℕ) → Bool) (lines : List (List ℕ)) (i : ℕ) →
    i < length lines → passes (drop i lines) ≡ false →
    some_suffix passes (drop i lines) ≡ some_suffix passes (drop (i + 1) lines)
passes_behind passes lines i within h =
    let split = drop-cons lines i [] within in
    rw (split, add-one i) (behind passes (get_or lines i []) (drop (suc i) lines)
    (sym (ap passes split) ∙ h))
