-- Texts put behind a text, one after the other.
use Rattle.std.proofs.Common.{◌≡◌, ℕ, List, ◌++◌, ◌∙◌, ap, append_assoc}

-- two of them
pub joined : (old mid new a b : List ℕ) → mid ≡ old ++ a → new ≡ mid ++ b → new ≡ old ++ (a ++ b)
joined old mid new a b first second = second ∙ ap (λ t. t ++ b) first ∙ append_assoc old a b

-- three of them
pub joined_three : (old one two new a b c : List ℕ) → one ≡ old ++ a → two ≡ one ++ b →
    new ≡ two ++ c → new ≡ old ++ ((a ++ b) ++ c)
joined_three old one two new a b c first second third =
    joined old two new (a ++ b) c (joined old one two a b first second) third
