-- Parts of a text, from a place on.
use Rattle.std.proofs.Common.{◌≡◌, ℕ, ◌+◌, List, [], ◌∷◌, drop, slice_index_or, Option, None, Some}
use Rattle.std.proofs.Common.{MatchOption, sym, ap, ◌∙◌, arith}
use Rattle.std.proofs.lemmas.List.{drop-drop, get_or-drop}

-- the next part is taken, if there is one
pub passed : (xs : List (List ℕ)) (n : ℕ) (o : Option (List ℕ)) (old new : List (List ℕ)) →
    old ≡ drop n xs → MatchOption o ((old ≡ []) × (new ≡ [])) (λ part. old ≡ part ∷ new) →
    new ≡ drop (n + 1) xs
passed xs n None old new at m = m.1 ∙ ap (drop 1) (sym m.0 ∙ at) ∙ drop-drop 1 n xs
passed xs n (Some part) old new at m = ap (drop 1) (sym m ∙ at) ∙ drop-drop 1 n xs

-- the part that is taken
pub taken : (xs : List (List ℕ)) (n : ℕ) (part : List ℕ) (rest : List (List ℕ)) →
    drop n xs ≡ part ∷ rest → slice_index_or xs n [] ≡ part
taken xs n part rest at = grind (arith, get_or-drop n xs 0 [], at)

-- no part is left
pub past : (xs : List (List ℕ)) (n : ℕ) → drop n xs ≡ [] → slice_index_or xs n [] ≡ []
past xs n at = grind (arith, get_or-drop n xs 0 [], at)
