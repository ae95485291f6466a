-- Lists of needed objects that grow by one object of a kind after another.
use Rattle.std.proofs.Common.{◌≡◌, ℕ, ◌+◌, List, [], ◌∷◌, ◌++◌, map, sym, ap, ◌∙◌, arith}
use Rattle.std.specs.List.{range_with_len}
use Rattle.std.proofs.lemmas.List.{append_assoc}
use Rattle.std.proofs.lemmas.List.FromFn.{map-range_with_len_more}
use Rattle.kernel_model.specs.declared.Need.{Need}

-- one more was added
pub grown : (f : ℕ → Need) (old now next : List Need) (n : ℕ) →
    now ≡ old ++ map f (range_with_len 0 n) → next ≡ now ++ f n ∷ [] →
    next ≡ old ++ map f (range_with_len 0 (n + 1))
grown f old now next n here added =
    let from_zero : 0 + n ≡ n = omega arith in
    added ∙ ap (λ (ns : List Need). ns ++ f n ∷ []) here
    ∙ append_assoc old (map f (range_with_len 0 n)) (f n ∷ [])
    ∙ ap (λ (ns : List Need). old ++ ns) (sym (map-range_with_len_more f 0 n n from_zero))

-- four needs, and four lists behind them
pub all_added : (old o1 o2 o3 o4 o5 o6 o7 o8 gs fs cs ls : List Need) (q c a z : Need) →
    o1 ≡ old ++ q ∷ [] → o2 ≡ o1 ++ c ∷ [] → o3 ≡ o2 ++ a ∷ [] → o4 ≡ o3 ++ z ∷ [] →
    o5 ≡ o4 ++ gs → o6 ≡ o5 ++ fs → o7 ≡ o6 ++ cs → o8 ≡ o7 ++ ls →
    o8 ≡ old ++ (q ∷ c ∷ a ∷ z ∷ gs ++ fs ++ cs ++ ls)
all_added old o1 o2 o3 o4 o5 o6 o7 o8 gs fs cs ls q c a z e1 e2 e3 e4 e5 e6 e7 e8 =
    rw (e8, e7, e6, e5, e4, e3, e2, e1) (simp append_assoc)

-- a need, and a list behind it
pub two_added : (old o1 o2 ns : List Need) (q : Need) → o1 ≡ old ++ q ∷ [] → o2 ≡ o1 ++ ns →
    o2 ≡ old ++ (q ∷ ns)
two_added old o1 o2 ns q e1 e2 = rw (e2, e1) (simp append_assoc)

-- two needs, and a list behind them
pub three_added : (old o1 o2 o3 ns : List Need) (q r : Need) → o1 ≡ old ++ q ∷ [] →
    o2 ≡ o1 ++ r ∷ [] → o3 ≡ o2 ++ ns → o3 ≡ old ++ (q ∷ r ∷ ns)
three_added old o1 o2 o3 ns q r e1 e2 e3 = rw (e3, e2, e1) (simp append_assoc)
