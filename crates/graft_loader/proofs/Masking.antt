-- A list whose bytes are changed one by one.
use Rattle.std.proofs.Common.{◌≡◌, ℕ, ◌+◌, ◌<◌, ◌≤◌, List, [], ◌∷◌, ◌++◌, length, take, get_or, map, sym, ap, ◌∙◌}
use Rattle.std.proofs.Math.ListN.{set}
use Rattle.std.proofs.lemmas.List.{take_more, take_more_set, take_all, map-append}

-- one more byte is changed
pub masked_more : (f : ℕ → ℕ) (xs ys : List ℕ) (i : ℕ) → take i ys ≡ map f (take i xs) → i < length xs → i < length ys
    → take (i + 1) (set ys i (f (get_or xs i 0))) ≡ map f (take (i + 1) xs)
masked_more f xs ys i h room more =
    take_more_set ys i (f (get_or xs i 0)) more ∙ ap (λ (zs : List ℕ). zs ++ f (get_or xs i 0) ∷ []) h
    ∙ sym (ap (map f) (take_more xs i 0 room) ∙ map-append f (take i xs) (get_or xs i 0 ∷ []))

-- all bytes are changed
pub masked_all : (f : ℕ → ℕ) (xs ys : List ℕ) (i : ℕ) → take i ys ≡ map f (take i xs) →
    length xs ≤ i → length ys ≤ i → ys ≡ map f xs
masked_all f xs ys i h long all = sym (take_all i ys all) ∙ h ∙ ap (map f) (take_all i xs long)
