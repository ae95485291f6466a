-- A charge leaves what each process has, has spent and has given to its grafts.
use Rattle.std.proofs.Common.{◌≡◌, ◌≢◌, ℕ, zero, suc, ◌+◌, ◌-◌, ◌*◌, ◌<◌, ◌≤◌, ◌==◌, nat_le, Bool}
use Rattle.std.proofs.Common.{true, false, cond, List, length, slice_index, refl, sym, subst, ◌∙◌}
use Rattle.std.proofs.Common.{ap, arith}
use Rattle.std.proofs.lemmas.Bool.Decides.{nat_tests}
use Rattle.kernel_model.specs.declared.Kind.{Kind}
use Rattle.kernel_model.specs.Sound.{sum_below, ledger}
use Rattle.graft_accounts.specs.Sums.{Sums, less_at, paid, paid_at}
use Rattle.graft_accounts.specs.Table.{Table, IsTable, sums_of, with_sums, accounts_of, total}
use Rattle.graft_accounts.proofs.Places.{set_here, set_other, each_place}
use Rattle.graft_accounts.proofs.Seen.{field_of, same_fields}
use Rattle.graft_accounts.proofs.Totals.{kept_of, sum_same, point_funds}

-- one of the summands is less by one
sum_less : (n j : ℕ) (f g : ℕ → ℕ) → j < n → ((i : ℕ) → i ≢ j → f i ≡ g i) → f j + 1 ≡ g j →
    sum_below n f + 1 ≡ sum_below n g
unfolding sum_below
sum_less zero j f g h same one = absurd (omega arith)
sum_less (suc n) j f g h same one =
    elim (n == j) as (λ b. (n == j) ≡ b → sum_below n f + f n + 1 ≡ sum_below n g + g n) [
      | true ↦ λ e.
          let here : j ≡ n = grind (arith, nat_tests) in
          let last : f n + 1 ≡ g n = subst (λ m. f m + 1 ≡ g m) here one in
          let rest = sum_same n f g (λ i low. same i (λ at. absurd (omega arith))) in omega arith
      | false ↦ λ e.
          let apart : n ≢ j = grind (arith, nat_tests) in
          let last = same n apart in
          let rest = sum_less n j f g (omega arith) same one in omega arith
    ] refl

-- what the grafts of a process have
abbrev pub row_sum : ℕ → List ℕ → ℕ
row_sum r fs = sum_below 16 (λ i. slice_index fs (16 * r + i))

-- what a process has, has spent, and has given to its grafts, of one kind
abbrev pub ledger_in : ℕ → Sums → ℕ
ledger_in r a = slice_index a.balances r + slice_index a.spent r + row_sum r a.funds

ledger_seen : (t : Table) (j : Kind) (r : ℕ) → IsTable t → ledger (accounts_of t) j r ≡ field_of (ledger_in r) t j
ledger_seen t j r h =
    ap (λ n. slice_index (sums_of t j).balances r + slice_index (sums_of t j).spent r + n)
    (sum_same 16 _ _ (λ pt low. point_funds t j r pt h low))

-- a process pays one
paid_ledger : (a : Sums) (p : ℕ) → p < length a.balances → p < length a.spent → 1 ≤ slice_index a.balances p →
    (r : ℕ) → ledger_in r (paid p 1 a) ≡ ledger_in r a
paid_ledger a p h i enough =
    let P : ℕ → Type 0 = λ r. ledger_in r (paid p 1 a) ≡ ledger_in r a in
    each_place P p
    (let b = set_here a.balances p (slice_index a.balances p - 1) h in
    let s = set_here a.spent p (slice_index a.spent p + 1) i in omega arith)
    (λ r apart.
    let b = set_other a.balances p r (slice_index a.balances p - 1) apart in
    let s = set_other a.spent p r (slice_index a.spent p + 1) apart in omega arith)

row_less : (fs : List ℕ) (p pt : ℕ) → pt < 16 → 16 * p + pt < length fs → 1 ≤ slice_index fs (16 * p + pt) →
    row_sum p (less_at (16 * p + pt) 1 fs) + 1 ≡ row_sum p fs
row_less fs p pt low h enough =
    let i = 16 * p + pt in
    let v = slice_index fs i - 1 in
    let here = set_here fs i v h in
    sum_less 16 pt (λ x. slice_index (less_at i 1 fs) (16 * p + x)) (λ x. slice_index fs (16 * p + x)) low
    (λ x apart. set_other fs i (16 * p + x) v (λ e. apart (omega arith)))
    (omega arith)

row_same : (fs : List ℕ) (p pt r : ℕ) → pt < 16 → r ≢ p → row_sum r (less_at (16 * p + pt) 1 fs) ≡ row_sum r fs
row_same fs p pt r low apart =
    let i = 16 * p + pt in
    sum_same 16 (λ x. slice_index (less_at i 1 fs) (16 * r + x)) (λ x. slice_index fs (16 * r + x))
    (λ x less. set_other fs i (16 * r + x) (slice_index fs i - 1) (λ e. apart (omega arith)))

-- a graft pays one
paid_at_ledger : (a : Sums) (p pt : ℕ) → pt < 16 → p < length a.spent →
    16 * p + pt < length a.funds → 1 ≤ slice_index a.funds (16 * p + pt) →
    (r : ℕ) → ledger_in r (paid_at p (16 * p + pt) 1 a) ≡ ledger_in r a
paid_at_ledger a p pt low h i enough =
    let P : ℕ → Type 0 = λ r. ledger_in r (paid_at p (16 * p + pt) 1 a) ≡ ledger_in r a in
    each_place P p
    (let s = set_here a.spent p (slice_index a.spent p + 1) h in
    let f = row_less a.funds p pt low i enough in omega arith)
    (λ r apart.
    let s = set_other a.spent p r (slice_index a.spent p + 1) apart in
    let f = row_same a.funds p pt r low apart in omega arith)

-- a move within the ledgers
moved_ledgers : (t u : Table) (k : Kind) (s : Sums) → IsTable t → IsTable u →
    ((r : ℕ) → ledger_in r s ≡ ledger_in r (sums_of t k)) →
    u ≡ with_sums k s t → (j : Kind) (r : ℕ) → ledger (accounts_of u) j r ≡ ledger (accounts_of t) j r
moved_ledgers t u k s h i e is j r =
    ledger_seen u j r i
    ∙ ap (λ v. field_of (ledger_in r) v j) is
    ∙ ap (λ f. f j) (same_fields (ledger_in r) k s t (e r))
    ∙ sym (ledger_seen t j r h)

pub account_charge_ledgers : (t u : Table) (k : Kind) (p : ℕ) (b : Bool) → IsTable t → IsTable u →
    p < 16 → b ≡ nat_le 1 (slice_index (sums_of t k).balances p) →
    u ≡ cond b (with_sums k (paid p 1 (sums_of t k)) t) t → (j : Kind) (r : ℕ) →
    ledger (accounts_of u) j r ≡ ledger (accounts_of t) j r
account_charge_ledgers t u k p true h i low enough e =
    let long = (kept_of t k h).sums in
    let some : 1 ≤ slice_index (sums_of t k).balances p = grind (arith, nat_tests) in
    let b = long.balances in let s = long.spent in
    moved_ledgers t u k (paid p 1 (sums_of t k)) h i (paid_ledger (sums_of t k) p (omega arith) (omega arith) some) e
account_charge_ledgers t u k p false h i low enough e = λ j r. ap (λ v. ledger (accounts_of v) j r) e

pub graft_charge_ledgers : (t u : Table) (k : Kind) (p pt : ℕ) (b : Bool) → IsTable t → IsTable u → p < 16 → pt < 16 →
    b ≡ nat_le 1 (slice_index (sums_of t k).funds (16 * p + pt)) →
    u ≡ cond b (with_sums k (paid_at p (16 * p + pt) 1 (sums_of t k)) t) t → (j : Kind) (r : ℕ) →
    ledger (accounts_of u) j r ≡ ledger (accounts_of t) j r
graft_charge_ledgers t u k p pt true h i low less enough e =
    let long = (kept_of t k h).sums in
    let some : 1 ≤ slice_index (sums_of t k).funds (16 * p + pt) = grind (arith, nat_tests) in
    let s = long.spent in let f = long.funds in
    moved_ledgers t u k (paid_at p (16 * p + pt) 1 (sums_of t k)) h i
    (paid_at_ledger (sums_of t k) p pt less (omega arith) (omega arith) some) e
graft_charge_ledgers t u k p pt false h i low less enough e = λ j r. ap (λ v. ledger (accounts_of v) j r) e

-- the same ledgers are the same in all
pub same_totals : (t u : Table) → ((j : Kind) (r : ℕ) → ledger (accounts_of u) j r ≡ ledger (accounts_of t) j r) →
    (j : Kind) → total (accounts_of u) j ≡ total (accounts_of t) j
same_totals t u e j = sum_same 16 (ledger (accounts_of u) j) (ledger (accounts_of t) j) (λ r low. e j r)
