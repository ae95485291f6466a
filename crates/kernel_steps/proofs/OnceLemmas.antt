-- Each process stands in the order once.
use Rattle.std.proofs.Common.{◌≡◌, ℕ, suc, ◌≤◌, ◌<◌, ◌==◌, true, false, not, nat_eq, List, [], ◌∷◌}
use Rattle.std.proofs.Common.{◌++◌, map, filter, length, refl, ap, ◌∙◌, arith}
use Rattle.std.specs.List.{list_any, IsDistinct, AllByRecursion}
use Rattle.std.proofs.lemmas.Bool.Decides.{nat_tests}
use Rattle.std.proofs.lemmas.Map.Steps.{length-le_from_distinct_below}
use Rattle.running_kernel.specs.declared.order.Waiting.{Waiting}
use Rattle.running_kernel.specs.Orders.{are_processes, joined, later, numbers_of, has_number, are_once}

-- ---- room

-- none of these is p
apart_from : (p : ℕ) (ns : List ℕ) → has_number p ns ≡ false → AllByRecursion (λ n. nat_eq p n ≡ false) ns
apart_from p [] h = tt
apart_from p (n ∷ ns) h = (grind (arith, nat_tests, h), apart_from p ns (grind (arith, nat_tests, h)))

distinct_of : (ns : List ℕ) → are_once ns ≡ true → IsDistinct nat_eq ns
unfolding IsDistinct
distinct_of [] h = tt
distinct_of (n ∷ ns) h = (apart_from n ns (grind (arith, h)), distinct_of ns (grind (arith, h)))

below_of : (ws : List Waiting) (q : ℕ) → are_processes ws ≡ true → list_any (nat_eq q) (numbers_of ws) ≡ true → q < 16
below_of [] q h k = grind (arith, k)
below_of (w ∷ ws) q h k = grind (arith, nat_tests, below_of ws q)

many : (ws : List Waiting) → length (numbers_of ws) ≡ length ws
many [] = refl
many (w ∷ ws) = ap suc (many ws)

-- where p doesn't wait there is room for it
pub room_for : (p : ℕ) (ws : List Waiting) → p < 16 → are_processes ws ≡ true →
    are_once (numbers_of ws) ≡ true → has_number p (numbers_of ws) ≡ false → length ws < 16
room_for p ws small all once new =
    let few : length (numbers_of (joined p ∷ ws)) ≤ 16 = length-le_from_distinct_below (numbers_of (joined p ∷ ws)) 16
    (distinct_of (numbers_of (joined p ∷ ws)) (grind (arith, once, new)))
    (λ q has. below_of (joined p ∷ ws) q (grind (arith, nat_tests, small, all)) has) in
    omega (arith, few, many ws)

-- ---- the order changes

-- a number that isn't there still isn't with another
has_more : (p q : ℕ) (ns : List ℕ) → has_number p ns ≡ false → (q == p) ≡ false → has_number p (ns ++ q ∷ []) ≡ false
has_more p q [] h k = grind (arith, k)
has_more p q (n ∷ ns) h k = grind (arith, k, has_more p q ns)

once_more : (p : ℕ) (ns : List ℕ) → are_once ns ≡ true → has_number p ns ≡ false → are_once (ns ++ p ∷ []) ≡ true
once_more p [] h k = grind (arith, k)
once_more p (n ∷ ns) h k = grind (arith, nat_tests, has_more n p ns, once_more p ns)

numbers_more : (ws : List Waiting) (w : Waiting) → numbers_of (ws ++ w ∷ []) ≡ numbers_of ws ++ w.process ∷ []
numbers_more [] w = refl
numbers_more (v ∷ ws) w = ap (λ ns. v.process ∷ ns) (numbers_more ws w)

-- with p at its end
pub once_joined : (p : ℕ) (ws : List Waiting) (w : Waiting) (new : List Waiting) → w ≡ joined p →
    new ≡ ws ++ w ∷ [] → are_once (numbers_of ws) ≡ true → has_number p (numbers_of ws) ≡ false →
    are_once (numbers_of new) ≡ true
once_joined p ws w new w_is new_is h k =
    ap (λ vs. are_once (numbers_of vs)) new_is ∙ ap are_once (numbers_more ws w
    ∙ ap (λ (u : Waiting). numbers_of ws ++ u.process ∷ []) w_is)
    ∙ once_more p (numbers_of ws) h k

-- without p
less_has : (p q : ℕ) (ws : List Waiting) → has_number q (numbers_of ws) ≡ false →
    has_number q (numbers_of (filter (λ (w : Waiting). not (w.process == p)) ws)) ≡ false
less_has p q [] h = refl
less_has p q (w ∷ ws) h = grind (arith, nat_tests, less_has p q ws)

pub once_less : (p : ℕ) (ws : List Waiting) → are_once (numbers_of ws) ≡ true →
    are_once (numbers_of (filter (λ (w : Waiting). not (w.process == p)) ws)) ≡ true
once_less p [] h = refl
once_less p (w ∷ ws) h = grind (arith, nat_tests, less_has p w.process ws, once_less p ws)

-- p has left
pub has_left : (p : ℕ) (ws : List Waiting) →
    has_number p (numbers_of (filter (λ (w : Waiting). not (w.process == p)) ws)) ≡ false
has_left p [] = refl
has_left p (w ∷ ws) = grind (arith, nat_tests, has_left p ws)

-- after a tick
pub same_later : (ws : List Waiting) → numbers_of (map later ws) ≡ numbers_of ws
same_later [] = refl
same_later (w ∷ ws) = ap (λ ns. w.process ∷ ns) (same_later ws)

-- of processes that stand there once there are at most sixteen, so before the last there was room
pub room_before : (p : ℕ) (ws : List Waiting) → are_processes (ws ++ joined p ∷ []) ≡ true →
    are_once (numbers_of (ws ++ joined p ∷ [])) ≡ true → length ws < 16
room_before p ws all once =
    let es = ws ++ joined p ∷ [] in
    let few : length (numbers_of es) ≤ 16 = length-le_from_distinct_below (numbers_of es) 16
    (distinct_of (numbers_of es) once) (λ q has. below_of es q all has) in
    omega (arith, few, many es, one_more ws)
  where
    one_more : (vs : List Waiting) → length (vs ++ joined p ∷ []) ≡ suc (length vs)
    one_more [] = refl
    one_more (v ∷ vs) = ap suc (one_more vs)
