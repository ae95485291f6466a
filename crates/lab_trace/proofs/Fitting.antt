-- A list of one that passes a test.
use Rattle.std.proofs.Common.{◌≡◌, Bool, true, List, [], ◌∷◌, arith}
use Rattle.std.specs.List.{list_all}

pub one_passes : {X : Type 0} (p : X → Bool) (xs : List X) (x : X) → xs ≡ x ∷ [] → p x ≡ true → list_all p xs ≡ true
one_passes p xs x one passes = grind (arith, one, passes)
