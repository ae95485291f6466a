-- A map over a list in place, and elements that pass a test.
use Rattle.std.proofs.Common.{◌≡◌, ℕ, suc, ◌+◌, ◌<◌, ◌≤◌, Bool, true, false, cond, List, [], ◌∷◌}
use Rattle.std.proofs.Common.{◌++◌, length, map, filter, get_or, set, take, drop, sym, ap, ◌∙◌}
use Rattle.std.proofs.Common.{append_assoc, append-nil, arith}
use Rattle.std.proofs.Math.Seq.{drop-cons}
use Rattle.std.proofs.lemmas.List.{drop_all}
use Rattle.std.proofs.lemmas.Grind.{common_steps}
use Rattle.std.proofs.lemmas.List.Edits.{map_over_more}

-- one step of a map in place
pub map_step : {X : Type 0} (f : X → X) (xs ys : List X) (i : ℕ) (d y : X) → i < length xs →
    ys ≡ map f (take i xs) ++ drop i xs → y ≡ f (get_or ys i d)
    → set ys i y ≡ map f (take (i + 1) xs) ++ drop (i + 1) xs
map_step f xs ys i d y lt h is =
    let same : get_or ys i d ≡ get_or ys i (get_or ys i d) = grind (arith, common_steps) in
    rw is (map_over_more f xs ys i (get_or ys i d) lt h same)

-- an element that passes stands before those that pass behind it
one_passes : (b : Bool) (fs rest : List ℕ) (x : ℕ) →
    (fs ++ cond b (x ∷ []) []) ++ rest ≡ fs ++ cond b (x ∷ rest) rest
one_passes true fs rest x = append_assoc fs (x ∷ []) rest
one_passes false fs rest x = ap (λ (ys : List ℕ). ys ++ rest) (append-nil fs)

-- what passes so far, and what passes of those that are left, is what passes of all
pub passing_more : (p : ℕ → Bool) (fs gs xs : List ℕ) (i : ℕ) → i < length xs →
    gs ≡ fs ++ cond (p (get_or xs i 0)) (get_or xs i 0 ∷ []) [] →
    fs ++ filter p (drop i xs) ≡ filter p xs → gs ++ filter p (drop (i + 1) xs) ≡ filter p xs
passing_more p fs gs xs i lt is so_far =
    let x = get_or xs i 0 in
    let next : i + 1 ≡ suc i = omega arith in
    ap (λ (ys : List ℕ). ys ++ filter p (drop (i + 1) xs)) is
    ∙ one_passes (p x) fs (filter p (drop (i + 1) xs)) x
    ∙ ap (λ (n : ℕ). fs ++ filter p (x ∷ drop n xs)) next
    ∙ sym (ap (λ (ys : List ℕ). fs ++ filter p ys) (drop-cons xs i 0 lt)) ∙ so_far

-- none is left
pub passing_all : (p : ℕ → Bool) (fs xs : List ℕ) (i : ℕ) → length xs ≤ i →
    fs ++ filter p (drop i xs) ≡ filter p xs → fs ≡ filter p xs
passing_all p fs xs i le so_far =
    sym (append-nil fs) ∙ sym (ap (λ (ys : List ℕ). fs ++ filter p ys) (drop_all i xs le)) ∙ so_far
