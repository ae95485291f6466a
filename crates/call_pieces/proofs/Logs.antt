-- Lists of calls of the disk.
use Rattle.std.proofs.Common.{◌≡◌, ℕ, ◌+◌, Bool, true, false, List, [], ◌∷◌, ◌++◌, length, refl}
use Rattle.std.proofs.Common.{◌∙◌, ap, append_assoc, length-append}
use Rattle.std.proofs.lemmas.List.{get_or_at}
use Rattle.kernel_model.specs.Meaning.{disk_fails}
use Rattle.call_needs.specs.Fetching.{has_failed}

-- what the next call of the disk does
pub fails_is : (log old rest : List Bool) (b : Bool) (n : ℕ) → log ≡ old ++ b ∷ [] →
    length old ≡ n → disk_fails (log ++ rest) n ≡ b
fails_is log old rest b n is len =
    ap (λ w. disk_fails (w ++ rest) n) is
    ∙ ap (λ w. disk_fails w n) (append_assoc old (b ∷ []) rest) ∙ get_or_at old b rest false n len

-- one more call
pub length_more : (log old : List Bool) (b : Bool) (n : ℕ) → log ≡ old ++ b ∷ [] → length old ≡ n → length log ≡ n + 1
length_more log old b n is len = ap length is ∙ length-append old (b ∷ []) ∙ ap (λ k. k + 1) len

-- the last of some calls failed
ends_failed : (xs : List Bool) → has_failed (xs ++ true ∷ []) ≡ true
ends_failed [] = refl
ends_failed (true ∷ xs) = refl
ends_failed (false ∷ xs) = ends_failed xs

pub last_failed : (log old : List Bool) (b : Bool) → log ≡ old ++ b ∷ [] → b ≡ true →
    has_failed log ≡ true
last_failed log old b is ill =
    ap has_failed is ∙ ap (λ x. has_failed (old ++ x ∷ [])) ill ∙ ends_failed old
