-- Copies behind a list.
use Rattle.std.proofs.Common.{◌≡◌, ℕ, ◌+◌, zero, suc, List, [], ◌∷◌, ◌++◌, replicate, refl, ap, ◌∙◌, arith}
use Rattle.std.proofs.lemmas.List.{append_assoc}

one_more : {A : Type 0} (n : ℕ) (x : A) → replicate n x ++ x ∷ [] ≡ replicate (suc n) x
one_more zero x = refl
one_more (suc n) x = ap (λ xs. x ∷ xs) (one_more n x)

-- one more copy behind a list and so many
pub copy_behind : {A : Type 0} (xs new : List A) (n : ℕ) (x : A) → new ≡ xs ++ replicate n x →
    new ++ x ∷ [] ≡ xs ++ replicate (n + 1) x
copy_behind xs new n x e =
    ap (λ ys. ys ++ x ∷ []) e ∙ append_assoc xs (replicate n x) (x ∷ [])
    ∙ ap (λ ys. xs ++ ys) (one_more n x)
    ∙ ap (λ k. xs ++ replicate k x) (let e : suc n ≡ n + 1 = omega arith in e)

pub ruleset copies = (copy_behind)
