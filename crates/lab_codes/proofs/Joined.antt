-- Texts put behind a text, one after the other.
use Rattle.std.proofs.Common.{◌≡◌, ℕ, List, ◌++◌, ◌∙◌, ap, append_assoc}

-- one more behind those that stand there, which has this text
pub joined : (old mid new a b text : List ℕ) → mid ≡ old ++ a → new ≡ mid ++ b → b ≡ text
    → new ≡ old ++ (a ++ text)
joined old mid new a b text first second is =
    second ∙ ap (λ t. t ++ b) first ∙ append_assoc old a b ∙ ap (λ t. old ++ (a ++ t)) is
