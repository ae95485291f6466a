-- Steps that are charged at once are as if they were charged one after another.
use Rattle.std.proofs.Common.{◌≡◌, ℕ, zero, suc, ◌+◌, ◌-◌, ◌*◌, ◌<◌, true, false, List, length}
use Rattle.std.proofs.Common.{slice_index, slice_set, Some, arith, sym, ◌∙◌, ap}
use Rattle.std.proofs.lemmas.List.{length-set, set-set, set-get_or}
use Rattle.kernel_model.specs.declared.Kind.TheVariants.{Steps}
use Rattle.kernel_model.specs.Charges.{charge, charged_steps}
use Rattle.graft_accounts.specs.declared.rows.Standing.{Standing}
use Rattle.graft_accounts.specs.Sums.{Sums, less_at, more_at, paid, paid_at}
use Rattle.graft_accounts.specs.Table.{Table, IsTable, standing_at, with_sums, accounts_of}
use Rattle.graft_accounts.proofs.Places.{set_here}
use Rattle.graft_accounts.proofs.Moves.{IsLong, long_of, account_charged, graft_charged}

-- ---- one place

set_twice : (xs : List ℕ) (i v u : ℕ) → slice_set (slice_set xs i u) i v ≡ slice_set xs i v
set_twice xs i v u = set-set xs i u v

set_itself : (xs : List ℕ) (i v : ℕ) → v ≡ slice_index xs i → slice_set xs i v ≡ xs
set_itself xs i v e = ap (λ u. slice_set xs i u) e ∙ set-get_or xs i 0

less_more : (i n : ℕ) (xs : List ℕ) → i < length xs → less_at i 1 (less_at i n xs) ≡ less_at i (suc n) xs
less_more i n xs h =
    let x = slice_index xs i in
    set_twice xs i (slice_index (less_at i n xs) i - 1) (x - n)
    ∙ ap (λ v. slice_set xs i v) (ap (λ v. v - 1) (set_here xs i (x - n) h)
    ∙ (let e : x - n - 1 ≡ x - suc n = omega arith in e))

more_more : (i n : ℕ) (xs : List ℕ) → i < length xs → more_at i 1 (more_at i n xs) ≡ more_at i (suc n) xs
more_more i n xs h =
    let x = slice_index xs i in
    set_twice xs i (slice_index (more_at i n xs) i + 1) (x + n)
    ∙ ap (λ v. slice_set xs i v) (ap (λ v. v + 1) (set_here xs i (x + n) h)
    ∙ (let e : x + n + 1 ≡ x + suc n = omega arith in e))

less_none : (i : ℕ) (xs : List ℕ) → less_at i 0 xs ≡ xs
less_none i xs = set_itself xs i (slice_index xs i - 0) (omega arith)

more_none : (i : ℕ) (xs : List ℕ) → more_at i 0 xs ≡ xs
more_none i xs = set_itself xs i (slice_index xs i + 0) (omega arith)

-- ---- the amounts

long_paid : (p n : ℕ) (s : Sums) → IsLong s → IsLong (paid p n s)
long_paid p n s h = record {
  balances = length-set s.balances p (slice_index s.balances p - n) ∙ h.balances;
  spent = length-set s.spent p (slice_index s.spent p + n) ∙ h.spent;
  funds = h.funds;
}

long_paid_at : (p i n : ℕ) (s : Sums) → IsLong s → IsLong (paid_at p i n s)
long_paid_at p i n s h = record {
  balances = h.balances;
  spent = length-set s.spent p (slice_index s.spent p + n) ∙ h.spent;
  funds = length-set s.funds i (slice_index s.funds i - n) ∙ h.funds;
}

paid_more : (p n : ℕ) (s : Sums) → IsLong s → p < 16 → paid p 1 (paid p n s) ≡ paid p (suc n) s
paid_more p n s h low =
    let b = h.balances in
    let sp = h.spent in
    ap (λ (xs : List ℕ). record s { balances = xs; spent = more_at p 1 (more_at p n s.spent) })
    (less_more p n s.balances (omega arith))
    ∙ ap (λ (xs : List ℕ). record s { balances = less_at p (suc n) s.balances; spent = xs })
    (more_more p n s.spent (omega arith))

paid_at_more : (p i n : ℕ) (s : Sums) → IsLong s → p < 16 → i < 256 →
    paid_at p i 1 (paid_at p i n s) ≡ paid_at p i (suc n) s
paid_at_more p i n s h low at =
    let f = h.funds in
    let sp = h.spent in
    ap (λ (xs : List ℕ). record s { funds = xs; spent = more_at p 1 (more_at p n s.spent) })
    (less_more i n s.funds (omega arith))
    ∙ ap (λ (xs : List ℕ). record s { funds = less_at i (suc n) s.funds; spent = xs })
    (more_more p n s.spent (omega arith))

paid_none : (p : ℕ) (s : Sums) → paid p 0 s ≡ s
paid_none p s =
    ap (λ (xs : List ℕ). record s { balances = xs; spent = more_at p 0 s.spent }) (less_none p s.balances)
    ∙ ap (λ (xs : List ℕ). record s { spent = xs }) (more_none p s.spent)

paid_at_none : (p i : ℕ) (s : Sums) → paid_at p i 0 s ≡ s
paid_at_none p i s =
    ap (λ (xs : List ℕ). record s { funds = xs; spent = more_at p 0 s.spent }) (less_none i s.funds)
    ∙ ap (λ (xs : List ℕ). record s { spent = xs }) (more_none p s.spent)

-- ---- the books

-- the account pays
billed_steps : (n : ℕ) (t : Table) (p pt : ℕ) (g : Standing) → IsLong t.steps → p < 16 → pt < 16 →
    standing_at t (16 * p + pt) ≡ Some g → g.billed ≡ true
    → accounts_of (with_sums Steps (paid p n t.steps) t) ≡ charged_steps n p pt (accounts_of t)
billed_steps zero t p pt g long h low stands billed =
    ap (λ (s : Sums). accounts_of (with_sums Steps s t)) (paid_none p t.steps)
billed_steps (suc n) t p pt g long h low stands billed =
    ap (λ (s : Sums). accounts_of (with_sums Steps s t)) (sym (paid_more p n t.steps long h))
    ∙ account_charged (with_sums Steps (paid p n t.steps) t) Steps p pt g
    (long_paid p n t.steps long) h low stands billed
    ∙ ap (charge Steps p pt) (billed_steps n t p pt g long h low stands billed)

-- the graft pays
funded_steps : (n : ℕ) (t : Table) (p pt : ℕ) (g : Standing) → IsLong t.steps → p < 16 → pt < 16 →
    standing_at t (16 * p + pt) ≡ Some g → g.billed ≡ false
    → accounts_of (with_sums Steps (paid_at p (16 * p + pt) n t.steps) t) ≡ charged_steps n p pt (accounts_of t)
funded_steps zero t p pt g long h low stands billed =
    ap (λ (s : Sums). accounts_of (with_sums Steps s t)) (paid_at_none p (16 * p + pt) t.steps)
funded_steps (suc n) t p pt g long h low stands billed =
    ap (λ (s : Sums). accounts_of (with_sums Steps s t))
    (sym (paid_at_more p (16 * p + pt) n t.steps long h (omega arith)))
    ∙ graft_charged (with_sums Steps (paid_at p (16 * p + pt) n t.steps) t) Steps p pt g
    (long_paid_at p (16 * p + pt) n t.steps long) h low stands billed
    ∙ ap (charge Steps p pt) (funded_steps n t p pt g long h low stands billed)

pub billed_seen : (n : ℕ) (t u : Table) (p pt : ℕ) (g : Standing) → IsTable t → p < 16 → pt < 16 →
    standing_at t (16 * p + pt) ≡ Some g → g.billed ≡ true
    → u ≡ with_sums Steps (paid p n t.steps) t → accounts_of u ≡ charged_steps n p pt (accounts_of t)
billed_seen n t u p pt g table h low stands billed e =
    ap accounts_of e ∙ billed_steps n t p pt g (long_of t Steps table) h low stands billed

pub funded_seen : (n : ℕ) (t u : Table) (p pt : ℕ) (g : Standing) → IsTable t → p < 16 → pt < 16 →
    standing_at t (16 * p + pt) ≡ Some g → g.billed ≡ false
    → u ≡ with_sums Steps (paid_at p (16 * p + pt) n t.steps) t → accounts_of u ≡ charged_steps n p pt (accounts_of t)
funded_seen n t u p pt g table h low stands billed e =
    ap accounts_of e ∙ funded_steps n t p pt g (long_of t Steps table) h low stands billed
