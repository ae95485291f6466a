-- Lists in which no number stands twice, and how long they are.
use Rattle.std.specs.Prelude.{◌≡◌, ℕ, suc, ◌<◌, ◌≤◌, true, false, nat_eq, List, [], ◌∷◌, length}
use Rattle.std.specs.List.{AllByRecursion, IsDistinct, list_any}
use Rattle.std.proofs.Common.{arith, ⊎_elim}
use Rattle.std.proofs.lemmas.Bool.{or_cases, eqb-true}
use Rattle.std.proofs.lemmas.Bool.Decides.{nat_tests}
use Rattle.std.proofs.lemmas.Map.Keys.{IsDistinct-cons}
use Rattle.std.proofs.lemmas.Map.Steps.{length-le_from_distinct_below}
use Rattle.kernel_model.specs.Sound.{count_of}

-- a number stands at least as often in a longer list
count_rest : (x f : ℕ) (xs : List ℕ) → count_of f xs ≤ count_of f (x ∷ xs)
count_rest x f xs = grind (arith, nat_tests)

-- and once more in one that begins with it
count_first : (x : ℕ) (xs : List ℕ) → count_of x (x ∷ xs) ≡ suc (count_of x xs)
count_first x xs = grind (arith, nat_tests)

-- each number of a list stands in it
pub each_counted : (P : ℕ → Type 0) (xs : List ℕ) → ((f : ℕ) → 1 ≤ count_of f xs → P f) → AllByRecursion P xs
each_counted P [] h = tt
each_counted P (x ∷ xs) h =
    let first = count_first x xs in (
      h x (omega (arith, first)),
      each_counted P xs (λ f l. let m = count_rest x f xs in
          h f (omega (arith, l, m))),
    )

-- a list that begins with another number
count_other : (x y : ℕ) (ys : List ℕ) → count_of x (y ∷ ys) ≡ 0 → (nat_eq x y ≡ false)
    × (count_of x ys ≡ 0)
count_other x y ys h = grind (arith, nat_tests)

-- what stands in no place is no number of the list
absent : (x : ℕ) (ys : List ℕ) → count_of x ys ≡ 0 → AllByRecursion (λ y. nat_eq x y ≡ false) ys
absent x [] h = tt
absent x (y ∷ ys) h = let k = count_other x y ys h in (k.0, absent x ys k.1)

-- where each number stands at most once, no two are the same
distinct : (xs : List ℕ) → ((f : ℕ) → count_of f xs ≤ 1) → IsDistinct nat_eq xs
unfolding IsDistinct
distinct [] h = tt
distinct (x ∷ xs) h =
    let first = count_first x xs in let once = h x in
    IsDistinct-cons nat_eq x xs (absent x xs (omega (arith, first, once)))
    (distinct xs (λ f. let l = h f in let m = count_rest x f xs in omega (arith, l, m)))

-- what is among numbers below n is below n
member_below : (n : ℕ) (xs : List ℕ) (q : ℕ) → AllByRecursion (λ x. x < n) xs →
    list_any (nat_eq q) xs ≡ true → q < n
member_below n [] q each h = cc
member_below n (x ∷ xs) q each h =
    ⊎_elim (λ e. let same = eqb-true q x e in let l = each.0 in
    omega (arith, same, l)) (λ r. member_below n xs q each.1 r)
    (or_cases (nat_eq q x) (list_any (nat_eq q) xs) h)

-- numbers below n of which each stands at most once are at most n
pub counted_few : (xs : List ℕ) (n : ℕ) → ((f : ℕ) → count_of f xs ≤ 1) → AllByRecursion (λ x. x < n) xs →
    length xs ≤ n
counted_few xs n h each =
    length-le_from_distinct_below xs n (distinct xs h) (λ q l. member_below n xs q each l)
