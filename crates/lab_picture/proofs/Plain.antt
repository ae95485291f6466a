-- Escaped text has no sign of a tag.
use Rattle.std.proofs.Common.{◌≡◌, ℕ, true, List, [], ◌∷◌, ◌++◌, flat_map, refl, arith}
use Rattle.std.specs.List.{list_all}
use Rattle.std.proofs.lemmas.Bool.Decides.{nat_tests}
use Rattle.lab_picture.specs.Escapes.{escaped, is_plain, TextIsPlain}

-- an escaped byte
byte-plain : (b : ℕ) → list_all is_plain (escaped b) ≡ true
byte-plain b = grind (arith, nat_tests)

-- texts one behind the other
both-plain : (xs ys : List ℕ) → list_all is_plain xs ≡ true → list_all is_plain ys ≡ true
    → list_all is_plain (xs ++ ys) ≡ true
both-plain [] ys h k = k
both-plain (x ∷ xs) ys h k = grind (arith, both-plain xs ys)

pub text-plain : TextIsPlain
text-plain [] = refl
text-plain (b ∷ bs) = both-plain (escaped b) (flat_map escaped bs) (byte-plain b) (text-plain bs)
