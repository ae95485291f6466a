-- What a graft gives is a range of its memory.
use Rattle.std.proofs.Common.{◌≡◌, ℕ, ◌+◌, ◌-◌, ◌<◌, ◌≤◌, List, length, get_or, take, drop, map}
use Rattle.std.proofs.Common.{length-drop, length-take-le, refl, sym, ap, ◌∙◌, arith}
use Rattle.std.specs.List.{range_with_len, slice_range}
use Rattle.std.proofs.lemmas.Grind.{same_number_lists}
use Rattle.std.proofs.lemmas.List.{get_or-take, get_or-drop}
use Rattle.std.proofs.lemmas.List.FromFn.{length-map-range_with_len, get_or-map-range_with_len}
use Rattle.audit_table.specs.Tables.{by_place}

-- a range has as many numbers as lie between its places
range_long : (xs : List ℕ) (a n : ℕ) → a + n ≤ length xs → length (slice_range xs a (a + n)) ≡ n
range_long xs a n inside =
    let count : (a + n) - a ≡ n = omega arith in
    let behind : n ≤ length (drop a xs) = omega (arith, length-drop a xs) in
    ap (λ (k : ℕ). length (take k (drop a xs))) count ∙ length-take-le n (drop a xs) behind

-- and each of them is the list's
of_range : (xs : List ℕ) (a n k : ℕ) → k < n → get_or (slice_range xs a (a + n)) k 0 ≡ get_or xs (a + k) 0
of_range xs a n k less =
    let among : k < (a + n) - a = omega arith in
    get_or-take ((a + n) - a) (drop a xs) k 0 among ∙ get_or-drop a xs k 0

-- a range of a list is its numbers by place
pub range_is : (xs : List ℕ) (a n : ℕ) → a + n ≤ length xs →
    slice_range xs a (a + n) ≡ map (by_place xs) (range_with_len a n)
range_is xs a n inside =
    let long = range_long xs a n inside in
    same_number_lists (slice_range xs a (a + n)) (map (by_place xs) (range_with_len a n))
    (long ∙ sym (length-map-range_with_len (by_place xs) a n))
    (λ k less.
    let among : k < n = omega (arith, long, less) in
    of_range xs a n k among
    ∙ sym (get_or-map-range_with_len (by_place xs) a n k (a + k) 0 among refl))
