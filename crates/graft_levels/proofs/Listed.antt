-- Lists the other way round.
use Rattle.std.proofs.Common.{arith, ◌≡◌, Bool, false, ◌||◌, List, [], ◌∷◌, ◌++◌, reverse, refl, sym, ◌∙◌, ap}
use Rattle.std.specs.List.{list_any}
use Rattle.std.proofs.lemmas.List.{reverse-append}

or_assoc : (a b c : Bool) → (a || b || c) ≡ (a || (b || c))
or_assoc a b c = grind arith

or_swap : (a b : Bool) → (a || b) ≡ (b || a)
or_swap a b = grind arith

or_false : (a : Bool) → (a || false) ≡ a
or_false a = grind arith

any_append : {X : Type 0} (t : X → Bool) (xs ys : List X) → list_any t (xs ++ ys) ≡ (list_any t xs || list_any t ys)
any_append t [] ys = refl
any_append t (x ∷ xs) ys =
    ap (λ b. t x || b) (any_append t xs ys) ∙ sym (or_assoc (t x) (list_any t xs) (list_any t ys))

-- whether one passes a test doesn't depend on the order
pub any_reverse : {X : Type 0} (t : X → Bool) (xs : List X) → list_any t (reverse xs) ≡ list_any t xs
any_reverse t [] = refl
any_reverse t (x ∷ xs) =
    ap (list_any t) (reverse-append (x ∷ []) xs) ∙ any_append t (reverse xs) (x ∷ [])
    ∙ ap (λ b. b || (t x || false)) (any_reverse t xs) ∙ or_swap (list_any t xs) (t x || false)
    ∙ ap (λ b. b || list_any t xs) (or_false (t x))
