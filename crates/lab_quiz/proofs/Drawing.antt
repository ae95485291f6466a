-- Which lines are left out, one after another.
use Rattle.std.proofs.Common.{◌≡◌, ◌≤◌, ◌<◌, ℕ, zero, suc, ◌+◌, ◌-◌, ◌%◌, Bool, true, false, cond, List, []}
use Rattle.std.proofs.Common.{◌∷◌, ◌++◌, length, filter, nat_lt, refl, sym, ap, ◌∙◌, append_assoc, arith}
use Rattle.std.proofs.lemmas.Bool.Decides.{nat_tests}
use Rattle.std.proofs.lemmas.Nat.{mod_below}
use Rattle.lab_quiz.specs.Quiz.{next, turned, is_drawn, drawn, third, left_out, is_left_out, count_out, LeavesThird}

-- one more mark
pub one_more : (rest left state number after : ℕ) (mark : Bool) (marks new whole : List Bool) →
    0 < rest → number ≡ next state → mark ≡ is_drawn number rest left →
    after ≡ left - cond mark 1 0 → new ≡ marks ++ mark ∷ [] →
    marks ++ drawn rest left state ≡ whole → new ++ drawn (rest - 1) after number ≡ whole
one_more zero left state number after mark marks new whole some s m a n before =
    absurd (omega (arith, some))
one_more (suc rest) left state number after mark marks new whole some s m a n before =
    let first = is_drawn (next state) (suc rest) left in
    let less : suc rest - 1 ≡ rest = omega arith in
    rw (n, a, m, s, less)
    (append_assoc marks (first ∷ []) (drawn rest (left - cond first 1 0) (next state)) ∙ before)

-- ---- how many there are

each_marked : (rest left state : ℕ) → length (drawn rest left state) ≡ rest
each_marked zero left state = refl
each_marked (suc rest) left state =
    ap suc (each_marked rest (left - cond (is_drawn (next state) (suc rest) left) 1 0) (next state))

-- the first is left out, so some are to be
some_left : (state rest left : ℕ) → is_drawn state rest left ≡ true → 0 < left
some_left state rest left e = grind (arith, nat_tests, e)

-- it isn't, so the others are enough
others_fit : (state rest left : ℕ) → is_drawn state (suc rest) left ≡ false → left ≤ rest
others_fit state rest left e =
    let below = mod_below (turned state) (suc rest) (omega arith) in
    let most : left ≤ turned state % suc rest = grind (arith, nat_tests, e) in
    omega (arith, below, most)

-- as many are left out as are to be, where that holds of the others
first_counted : (rest left state : ℕ) (mark : Bool) → is_drawn (next state) (suc rest) left ≡ mark →
    left ≤ suc rest → ((n : ℕ) → n ≤ rest → count_out (drawn rest n (next state)) ≡ n) →
    count_out (mark ∷ drawn rest (left - cond mark 1 0) (next state)) ≡ left
first_counted rest left state true h fits others =
    let some = some_left (next state) (suc rest) left h in
    ap suc (others (left - 1) (omega (arith, fits, some))) ∙ omega (arith, some)
first_counted rest left state false h fits others =
    let enough = others_fit (next state) rest left h in
    others (left - 0) (omega (arith, enough)) ∙ omega arith

counted : (rest left state : ℕ) → left ≤ rest → count_out (drawn rest left state) ≡ left
counted zero left state fits = omega (arith, fits)
counted (suc rest) left state fits =
    first_counted rest left state (is_drawn (next state) (suc rest) left) refl fits
    (λ n least. counted rest n (next state) least)

-- a third fits
third_fits : (count : ℕ) → third count ≤ count
third_fits count = grind (arith, nat_tests)

pub third_is_out : (seed count : ℕ) → LeavesThird seed count
third_is_out seed count =
    record {
      each = each_marked count (third count) seed;
      third = counted count (third count) seed (third_fits count);
    }
