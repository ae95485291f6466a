-- Lists of places at which nothing stands.
use Rattle.std.proofs.Common.{◌≡◌, ℕ, zero, suc, ◌+◌, ◌*◌, ◌==◌, nat_lt, Bool, true, false, not}
use Rattle.std.proofs.Common.{cond, count_by, is_some, List, [], ◌∷◌, slice_index_or, Option, Some}
use Rattle.std.proofs.Common.{None, refl, sym, ◌∙◌, ap, arith}
use Rattle.std.proofs.lemmas.Bool.Decides.{nat_tests}
use Rattle.std.proofs.lemmas.List.Sums.{sum_by-cons}
use Rattle.std.proofs.lemmas.Option.{none-some}
use Rattle.kernel_model.specs.Objects.{GraftValue}
use Rattle.graft_accounts.specs.Table.{Table, standing_at, graft_at, accounts_of}

-- a place at which none stands counts for nothing
none_first : {X : Type 0} (l : List (Option X)) → count_by is_some (None ∷ l) ≡ count_by is_some l
none_first {X = X} l = sum_by-cons (λ (s : Option X). cond (is_some s) 1 0) None l ∙ omega arith

-- where none is counted, none stands anywhere
pub none_stands : {X : Type 0} (l : List (Option X)) → count_by is_some l ≡ 0 → (i : ℕ) → slice_index_or l i None ≡ None
none_stands [] e i = refl
none_stands (None ∷ l) e zero = refl
none_stands (None ∷ l) e (suc i) = none_stands l (sym (none_first l) ∙ e) i
none_stands (Some x ∷ l) e i = absurd (let more = sum_by-cons (λ s. cond (is_some s) 1 0) (Some x) l in omega arith)

-- where none stands anywhere, none is counted
pub none_counted : {X : Type 0} (l : List (Option X)) → ((i : ℕ) → slice_index_or l i None ≡ None) →
    count_by is_some l ≡ 0
none_counted [] f = refl
none_counted (None ∷ l) f = none_first l ∙ none_counted l (λ i. f (suc i))
none_counted (Some x ∷ l) f = absurd (none-some x (sym (f 0)))

-- a count that isn't 0 is said to be
pub zero_by : (n : ℕ) → not (n == 0) ≡ false → n ≡ 0
zero_by zero e = refl
zero_by (suc n) e = grind (arith, nat_tests, e)

pub not_zero : (n : ℕ) → n ≡ 0 → not (n == 0) ≡ false
not_zero n e = ap (λ m. not (m == 0)) e

pub either_none : (b : Bool) → cond {A = Option GraftValue} b None None ≡ None
either_none true = refl
either_none false = refl

-- then no graft stands at any point
pub none_seen : (t : Table) → ((i : ℕ) → standing_at t i ≡ None) → (q pt : ℕ) → (accounts_of t).graft q pt ≡ None
none_seen t none q pt =
    ap (λ g. cond (nat_lt pt 16) (graft_at t (16 * q + pt) g) None) (none (16 * q + pt))
    ∙ either_none (nat_lt pt 16)
