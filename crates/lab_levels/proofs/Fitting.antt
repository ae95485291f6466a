-- An element of a list whose elements all pass a test.
use Rattle.std.proofs.Common.{◌≡◌, ℕ, Bool, true, List, [], ◌∷◌, Some, arith}
use Rattle.std.proofs.lemmas.List.Sums.{AllPass-from_list_all}
use Rattle.std.proofs.lemmas.Option.{slice_get_within, unwrap_or-slice_get}
use Rattle.std.specs.List.{list_all, slice_get}

-- it passes the test
pub get_passes : {X : Type 0} (p : X → Bool) (xs : List X) (i : ℕ) (x : X) → list_all p xs ≡ true →
    slice_get xs i ≡ Some x → p x ≡ true
get_passes p xs i x all at =
    grind (
      arith,
      AllPass-from_list_all p xs all i x (slice_get_within xs i x at),
      unwrap_or-slice_get xs i x,
      at,
    )

-- a list of one that passes it
pub one_passes : {X : Type 0} (p : X → Bool) (xs : List X) (x : X) → xs ≡ x ∷ [] → p x ≡ true → list_all p xs ≡ true
one_passes p xs x one passes = grind (arith, one, passes)
