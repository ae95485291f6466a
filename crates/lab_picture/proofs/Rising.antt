-- What is appended in three parts.
use Rattle.std.proofs.Common.{◌≡◌, ℕ, List, ◌++◌, codes, ◌∙◌, ap, append_assoc}
use Rattle.lab_picture.specs.declared.shapes.At.{At}
use Rattle.lab_picture.specs.Shapes.{counted, rotation, rising}

-- three parts, one behind another
three : (old one two new a b c : List ℕ) → one ≡ old ++ a → two ≡ one ++ b → new ≡ two ++ c →
    new ≡ old ++ ((a ++ b) ++ c)
three old one two new a b c first second third =
    third
    ∙ ap (λ t. t ++ c) (second ∙ ap (λ t. t ++ b) first ∙ append_assoc old a b)
    ∙ append_assoc old (a ++ b) c

pub rotated : (old one two new : List ℕ) (at : At) → one ≡ old ++ counted (codes "rotate(-58 ") at.x →
    two ≡ one ++ counted (codes " ") at.y → new ≡ two ++ codes ")" → new ≡ old ++ rotation at
unfolding rotation
rotated old one two new at first second third =
    three old one two new (counted (codes "rotate(-58 ") at.x) (counted (codes " ") at.y) (codes ")")
    first second third

pub risen : (old one two new : List ℕ) (at : At) → one ≡ old ++ codes " transform=\"" →
    two ≡ one ++ rotation at → new ≡ two ++ codes "\"" → new ≡ old ++ rising at
unfolding rising
risen old one two new at first second third =
    three old one two new (codes " transform=\"") (rotation at) (codes "\"") first second third
