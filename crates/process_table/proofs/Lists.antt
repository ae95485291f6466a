-- Lemmas on lists: a map in place, and how long a list is whose elements are counted by a number.
use Rattle.std.proofs.Common.{◌≡◌, ℕ, zero, suc, ◌+◌, ◌*◌, ◌<◌, ◌≤◌, true, false, cond, List, []}
use Rattle.std.proofs.Common.{◌∷◌, ◌++◌, length, filter, map, ◌==◌, get_or, set, take, drop}
use Rattle.std.proofs.Common.{replicate, refl, arith}
use Rattle.std.specs.List.{list_any}
use Rattle.std.proofs.lemmas.Bool.Decides.{nat_tests}
use Rattle.std.proofs.lemmas.Grind.{common_steps}
use Rattle.std.proofs.lemmas.List.Edits.{map_over_more}

-- one step of a map in place
pub map_step : {X : Type 0} (f : X → X) (xs ys : List X) (i : ℕ) (d y : X) → i < length xs →
    ys ≡ map f (take i xs) ++ drop i xs → y ≡ f (get_or ys i d)
    → set ys i y ≡ map f (take (i + 1) xs) ++ drop (i + 1) xs
map_step f xs ys i d y lt h is =
    let same : get_or ys i d ≡ get_or ys i (get_or ys i d) = grind (arith, common_steps) in
    rw is (map_over_more f xs ys i (get_or ys i d) lt h same)

-- the sum of a function over n numbers from low on
unfoldable pub sum_from : ℕ → ℕ → (ℕ → ℕ) → ℕ
sum_from low zero f = 0
sum_from low (suc n) f = sum_from low n f + f (low + n)

-- how many elements have each number
abbrev pub counted : {X : Type 0} → (X → ℕ) → List X → ℕ → ℕ
counted key xs k = length (filter (λ x. key x == k) xs)

-- 1 at one number
abbrev pub one_at : ℕ → ℕ → ℕ
one_at a k = cond (a == k) 1 0

sum_from-none : (low n : ℕ) → sum_from low n (λ k. 0) ≡ 0
unfolding sum_from
sum_from-none low zero = refl
sum_from-none low (suc n) = omega (arith, sum_from-none low n)

sum_from-above : (low n a : ℕ) → low + n ≤ a → sum_from low n (one_at a) ≡ 0
unfolding sum_from
sum_from-above low zero a le = refl
sum_from-above low (suc n) a le = grind (arith, nat_tests, sum_from-above low n a (omega arith))

sum_from-one : (low n a : ℕ) → low ≤ a → a < low + n → sum_from low n (one_at a) ≡ 1
unfolding sum_from
sum_from-one low zero a le lt = absurd (omega arith)
sum_from-one low (suc n) a le lt =
    elim (a == (low + n)) as (λ b. (a == (low + n)) ≡ b → sum_from low n (one_at a) + cond b 1 0 ≡ 1) [
      | true ↦ λ e. grind (arith, nat_tests, sum_from-above low n a)
      | false ↦ λ e. grind (arith, nat_tests, sum_from-one low n a le)
    ] refl

sum_from-add : (low n : ℕ) (f g : ℕ → ℕ) → sum_from low n (λ k. f k + g k) ≡ sum_from low n f + sum_from low n g
unfolding sum_from
sum_from-add low zero f g = refl
sum_from-add low (suc n) f g = omega (arith, sum_from-add low n f g)

sum_from-same : (low n : ℕ) (f g : ℕ → ℕ) → ((k : ℕ) → f k ≡ g k) → sum_from low n f ≡ sum_from low n g
unfolding sum_from
sum_from-same low zero f g h = refl
sum_from-same low (suc n) f g h = omega (arith, sum_from-same low n f g h, h (low + n))

counted-cons : {X : Type 0} (key : X → ℕ) (x : X) (xs : List X) (k : ℕ) →
    counted key (x ∷ xs) k ≡ one_at (key x) k + counted key xs k
counted-cons key x xs k = grind (arith, nat_tests)

-- the elements are those of each number together
length-counted : {X : Type 0} (key : X → ℕ) (xs : List X) (low n : ℕ) →
    ((k : ℕ) → list_any (λ x. key x == k) xs ≡ true → (low ≤ k) × (k < low + n))
    → sum_from low n (counted key xs) ≡ length xs
length-counted key [] low n h = sum_from-none low n
length-counted key (x ∷ xs) low n h =
    let here : (low ≤ key x) × (key x < low + n) = h (key x) (grind (arith, nat_tests)) in
    let rest = length-counted key xs low n (λ k some. h k (grind (arith, nat_tests))) in
    omega (
      arith,
      sum_from-same low n (counted key (x ∷ xs)) (λ k. one_at (key x) k + counted key xs k) (counted-cons key x xs),
      sum_from-add low n (one_at (key x)) (counted key xs),
      sum_from-one low n (key x) here.0 here.1,
      rest,
    )

sum_from-le : (low n m : ℕ) (f : ℕ → ℕ) → ((k : ℕ) → f k ≤ m) → sum_from low n f ≤ n * m
unfolding sum_from
sum_from-le low zero m f h = omega arith
sum_from-le low (suc n) m f h = grind (arith, sum_from-le low n m f h, h (low + n))

sum_from-lt : (low n m c : ℕ) (f : ℕ → ℕ) → ((k : ℕ) → f k ≤ m) → low ≤ c → c < low + n → f c < m →
    sum_from low n f < n * m
unfolding sum_from
sum_from-lt low zero m c f h le lt less = absurd (omega arith)
sum_from-lt low (suc n) m c f h le lt less =
    elim (c == (low + n)) as (λ b. (c == (low + n)) ≡ b → sum_from low n f + f (low + n) < suc n * m) [
      | true ↦ λ e. grind (arith, nat_tests, sum_from-le low n m f h)
      | false ↦ λ e. grind (arith, nat_tests, sum_from-lt low n m c f h le, h (low + n))
    ] refl

-- fewer than n * m elements have their numbers among n, where at most m have each and fewer than m have c
pub length-below : {X : Type 0} (key : X → ℕ) (xs : List X) (low n m c : ℕ) →
    ((k : ℕ) → list_any (λ x. key x == k) xs ≡ true → (low ≤ k) × (k < low + n))
    → ((k : ℕ) → counted key xs k ≤ m) → low ≤ c → c < low + n → counted key xs c < m → length xs < n * m
length-below key xs low n m c within most le lt less =
    omega (arith, length-counted key xs low n within, sum_from-lt low n m c (counted key xs) most le lt less)

-- an element of a list of one value
pub get_or-replicate : {X : Type 0} (n i : ℕ) (x : X) → get_or (replicate n x) i x ≡ x
get_or-replicate zero i x = refl
get_or-replicate (suc n) zero x = refl
get_or-replicate (suc n) (suc i) x = get_or-replicate n i x
