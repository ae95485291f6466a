-- The first row with the least key, by the first row and those behind it.
use Rattle.std.proofs.Common.{◌≡◌, ◌≤◌, ℕ, Bool, true, false, cond, nat_lt, List, [], ◌∷◌, length, drop}
use Rattle.std.proofs.Common.{Option, None, Some, slice_index_or, sym, ap, ◌∙◌, arith}
use Rattle.kernel_model.specs.declared.QueueRow.{QueueRow}
use Rattle.kernel_model.specs.Policies.{least}

-- the lesser of a row and what is the least behind it
abbrev lesser : (QueueRow → ℕ) → QueueRow → Option QueueRow → Option QueueRow
lesser key x o = elim o [ None ↦ Some x | Some y ↦ cond (nat_lt (key y) (key x)) (Some y) (Some x) ]

-- there is no other row
pub none_behind : (key : QueueRow → ℕ) (xs : List QueueRow) (d : QueueRow) → 1 ≤ length xs →
    None ≡ least key (drop 1 xs) → Some (slice_index_or xs 0 d) ≡ least key xs
none_behind key [] d some e = absurd (omega (arith, some))
none_behind key (x ∷ xs) d some e = ap (lesser key x) e

-- a row behind has a lesser key
pub lesser_behind : (key : QueueRow → ℕ) (xs : List QueueRow) (d y : QueueRow) → 1 ≤ length xs →
    Some y ≡ least key (drop 1 xs) → nat_lt (key y) (key (slice_index_or xs 0 d)) ≡ true →
    Some y ≡ least key xs
lesser_behind key [] d y some e less = absurd (omega (arith, some))
lesser_behind key (x ∷ xs) d y some e less =
    sym (ap (λ (b : Bool). cond b (Some y) (Some x)) less) ∙ ap (lesser key x) e

-- no row behind has a lesser key
pub none_lesser : (key : QueueRow → ℕ) (xs : List QueueRow) (d y : QueueRow) → 1 ≤ length xs →
    Some y ≡ least key (drop 1 xs) → nat_lt (key y) (key (slice_index_or xs 0 d)) ≡ false →
    Some (slice_index_or xs 0 d) ≡ least key xs
none_lesser key [] d y some e more = absurd (omega (arith, some))
none_lesser key (x ∷ xs) d y some e more =
    sym (ap (λ (b : Bool). cond b (Some y) (Some x)) more) ∙ ap (lesser key x) e
