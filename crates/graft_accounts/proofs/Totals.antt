-- In all there is the grant.
use Rattle.std.proofs.Common.{◌≡◌, ℕ, zero, suc, ◌+◌, ◌*◌, ◌<◌, List, [], ◌∷◌, length, sum}
use Rattle.std.proofs.Common.{slice_index, Option, Some, None, refl, sym, subst, ◌∙◌, ap, arith}
use Rattle.std.proofs.Common.{add-zero, add-suc}
use Rattle.std.proofs.lemmas.List.Sums.{sum_by-cons}
use Rattle.kernel_model.specs.declared.Kind.{Kind}
use Rattle.kernel_model.specs.declared.Kind.TheVariants.{Steps, Records, Locks}
use Rattle.kernel_model.specs.Sound.{sum_below, graft_balance}
use Rattle.graft_accounts.specs.declared.rows.Standing.{Standing}
use Rattle.graft_accounts.specs.Sums.{Sums, IsKept}
use Rattle.graft_accounts.specs.Table.{Table, IsTable, sums_of, with_sums, standing_at, graft_at, accounts_of, total}
use Rattle.graft_accounts.proofs.Seen.{graft_point, same_fields}

-- ---- sums of functions

pub sum_same : (n : ℕ) (f g : ℕ → ℕ) → ((i : ℕ) → i < n → f i ≡ g i) → sum_below n f ≡ sum_below n g
unfolding sum_below
sum_same zero f g h = refl
sum_same (suc n) f g h =
    let rest = sum_same n f g (λ i low. h i (omega arith)) in
    let last = h n (omega arith) in omega arith

sum_parts : (n : ℕ) (f g : ℕ → ℕ) → sum_below n (λ i. f i + g i) ≡ sum_below n f + sum_below n g
unfolding sum_below
sum_parts zero f g = refl
sum_parts (suc n) f g = let rest = sum_parts n f g in omega arith

sum_front : (n : ℕ) (f : ℕ → ℕ) → sum_below (suc n) f ≡ f 0 + sum_below n (λ i. f (suc i))
unfolding sum_below
sum_front zero f = omega arith
sum_front (suc n) f = let rest = sum_front n f in omega arith

sum_split : (a m : ℕ) (f : ℕ → ℕ) → sum_below (a + m) f ≡ sum_below a f + sum_below m (λ i. f (a + i))
unfolding sum_below
sum_split a zero f = rw add-zero (omega arith)
sum_split a (suc m) f = let rest = sum_split a m f in rw add-suc (omega arith)

-- a list by its places
sum_list : (xs : List ℕ) → sum_below (length xs) (slice_index xs) ≡ sum xs
unfolding sum_below
sum_list [] = refl
sum_list (x ∷ xs) =
    sum_front (length xs) (slice_index (x ∷ xs)) ∙ ap (λ n. x + n) (sum_list xs)
    ∙ sym (sum_by-cons (λ (n : ℕ). n) x xs)

-- rows of m places
sum_rows : (n m : ℕ) (f : ℕ → ℕ) → sum_below n (λ q. sum_below m (λ i. f (m * q + i))) ≡ sum_below (m * n) f
unfolding sum_below
sum_rows zero m f = let none : m * 0 ≡ 0 = omega arith in rw none refl
sum_rows (suc n) m f =
    let rest = sum_rows n m f in
    let both = sum_split (m * n) m f in
    let long : m * suc n ≡ m * n + m = omega arith in
    rw long (omega arith)

-- ---- ledgers

-- what the graft at a point has is what stands at its place
funds_of : (t : Table) (j : Kind) (i : ℕ) (g : Option Standing) → standing_at t i ≡ g → IsKept t.grafts (sums_of t j) →
    graft_balance j (graft_at t i g) ≡ slice_index (sums_of t j).funds i
funds_of t j i None e k = sym (k.none i e)
funds_of t j i (Some g) e k = refl

pub kept_of : (t : Table) (j : Kind) → IsTable t → IsKept t.grafts (sums_of t j)
kept_of t Steps h = h.steps
kept_of t Records h = h.records
kept_of t Locks h = h.locks

pub point_funds : (t : Table) (j : Kind) (q pt : ℕ) → IsTable t → pt < 16 →
    graft_balance j ((accounts_of t).graft q pt) ≡ slice_index (sums_of t j).funds (16 * q + pt)
point_funds t j q pt h low =
    ap (graft_balance j) (graft_point t q pt low)
    ∙ funds_of t j (16 * q + pt) (standing_at t (16 * q + pt)) refl (kept_of t j h)

listed : (n : ℕ) (xs : List ℕ) → length xs ≡ n → sum_below n (slice_index xs) ≡ sum xs
listed n xs e = subst (λ m. sum_below m (slice_index xs) ≡ sum xs) e (sum_list xs)

-- in all there is the grant
pub total_of : (t : Table) (j : Kind) → IsTable t → total (accounts_of t) j ≡ (sums_of t j).grant
total_of t j h =
    let a = sums_of t j in
    let k = kept_of t j h in
    let had = λ (q : ℕ). slice_index a.balances q in
    let spent = λ (q : ℕ). slice_index a.spent q in
    let given = λ (q : ℕ). sum_below 16 (λ pt. graft_balance j ((accounts_of t).graft q pt)) in
    let rows = λ (q : ℕ). sum_below 16 (λ i. slice_index a.funds (16 * q + i)) in
    let e1 = sum_parts 16 (λ q. had q + spent q) given in
    let e2 = sum_parts 16 had spent in
    let e3 = sum_same 16 given rows (λ q _. sum_same 16 _ _ (λ pt low. point_funds t j q pt h low)) in
    let e4 = sum_rows 16 16 (slice_index a.funds) in
    let b = listed 16 a.balances k.sums.balances in
    let s = listed 16 a.spent k.sums.spent in
    let f = listed 256 a.funds k.sums.funds in
    let all = k.sums.total in
    e1 ∙ ap (λ n. n + sum_below 16 given) e2
    ∙ ap (λ n. sum_below 16 had + sum_below 16 spent + n) (e3 ∙ e4 ∙ f)
    ∙ ap (λ n. n + sum_below 16 spent + sum a.funds) b
    ∙ ap (λ n. sum a.balances + n + sum a.funds) s
    ∙ all

-- two tables with the same grant have the same in all
pub totals_stay : (t u : Table) → IsTable t → IsTable u → ((j : Kind) → (sums_of u j).grant ≡ (sums_of t j).grant) →
    (j : Kind) → total (accounts_of u) j ≡ total (accounts_of t) j
totals_stay t u h k same j = total_of u j k ∙ same j ∙ sym (total_of t j h)

-- and so after a move of amounts of one kind
pub totals_with : (t u : Table) (k : Kind) (s : Sums) → u ≡ with_sums k s t →
    s.grant ≡ (sums_of t k).grant → IsTable t → IsTable u →
    (j : Kind) → total (accounts_of u) j ≡ total (accounts_of t) j
totals_with t u k s e g h i j =
    totals_stay t u h i (λ j. ap (λ v. (sums_of v j).grant) e ∙ ap (λ f. f j) (same_fields (λ a. a.grant) k s t g)) j
