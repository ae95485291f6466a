-- Lists of needed objects that grow by one object of a kind after another.
use Rattle.std.proofs.Common.{◌≡◌, ℕ, ◌+◌, ◌<◌, ◌≤◌, List, [], ◌∷◌, ◌++◌, length, map, sym, ap, ◌∙◌, arith}
use Rattle.std.specs.List.{range_with_len}
use Rattle.std.proofs.lemmas.List.{append_assoc, length-append}
use Rattle.std.proofs.lemmas.List.FromFn.{length-map-range_with_len, map-range_with_len_more}
use Rattle.kernel_model.specs.declared.Need.{Need}

from_zero : (n : ℕ) → 0 + n ≡ n
from_zero n = grind (arith)

-- one more was added
pub grown : (f : ℕ → Need) (old now next : List Need) (n : ℕ) →
    now ≡ old ++ map f (range_with_len 0 n) → next ≡ now ++ f n ∷ [] →
    next ≡ old ++ map f (range_with_len 0 (n + 1))
grown f old now next n here added =
    added ∙ ap (λ ns. ns ++ f n ∷ []) here ∙ append_assoc old (map f (range_with_len 0 n)) (f n ∷ [])
    ∙ ap (λ ns. old ++ ns) (sym (map-range_with_len_more f 0 n n (from_zero n)))

-- there is room for the next
pub has_room : (f : ℕ → Need) (old now : List Need) (n most room : ℕ) →
    now ≡ old ++ map f (range_with_len 0 n) → n < most → length old + most ≤ room →
    length now < room
has_room f old now n most room here more few =
    let count : length now ≡ length old + n = ap length here
    ∙ length-append old (map f (range_with_len 0 n))
    ∙ ap (λ k. length old + k) (length-map-range_with_len f 0 n) in
    grind (arith, count)
