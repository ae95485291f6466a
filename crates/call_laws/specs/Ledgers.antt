-- Nothing of any kind is made or lost when amounts go from account to account, or to and from
-- grafts.
use Rattle.std.specs.Prelude.{◌≡◌, ◌≢◌, ℕ, zero, suc, ◌+◌, ◌-◌, ◌<◌, ◌≤◌, ◌==◌, true, cond, Option, None, Some}
use Rattle.std.proofs.Common.{arith, refl, subst, sym, ap, ◌∙◌, inl, inr}
use Rattle.std.proofs.lemmas.Bool.{cases_Bool, cases_eq, cond-true, cond-false, eq-eqb, ne_eqb}
use Rattle.std.proofs.lemmas.Bool.Decides.{nat_tests}
use Rattle.kernel_model.specs.declared.Kind.{Kind}
use Rattle.kernel_model.specs.declared.Kind.TheVariants.{Steps, Records, Locks}
use Rattle.kernel_model.specs.Objects.{Accounts, GraftValue, AcctValue, at, at2, same_kind}
use Rattle.kernel_model.specs.Charges.{removed, removed_by, returned}
use Rattle.kernel_model.specs.Pieces.{without_grafts, account_closed, empty_account, joint_account}
use Rattle.kernel_model.specs.Pieces.{less, more, accounts_after}
use Rattle.kernel_model.specs.Sound.{sum_below, graft_balance, ledger}
use Rattle.call_laws.specs.Exits.{graft_taken}

-- ---- sums

-- the same numbers have the same sum
pub sum_same : (n : ℕ) (f g : ℕ → ℕ) → ((i : ℕ) → i < n → f i ≡ g i) → sum_below n f ≡ sum_below n g
unfolding sum_below
sum_same zero f g h = refl
sum_same (suc n) f g h = let k = sum_same n f g (λ i low. h i (omega arith)) in let e =
    h n (omega arith) in omega arith

-- one number more or less
pub sum_one : (n j : ℕ) (f g : ℕ → ℕ) → j < n → ((i : ℕ) → i < n → i ≢ j → f i ≡ g i) →
    sum_below n f + g j ≡ sum_below n g + f j
unfolding sum_below
sum_one zero j f g low h = absurd (omega arith)
sum_one (suc n) j f g low h = elim (cases_eq n j) [
  | inl e ↦
      let rest = sum_same n f g (λ i less. h i (omega arith) (omega arith)) in
      let last = ap f e in
      let other = ap g e in omega arith
  | inr ne ↦
      let k = sum_one n j f g (omega arith) (λ i less. h i (omega arith)) in
      let e = h n (omega arith) ne in omega arith
]

-- zeros
pub sum_zero : (n : ℕ) (f : ℕ → ℕ) → ((i : ℕ) → i < n → f i ≡ 0) → sum_below n f ≡ 0
unfolding sum_below
sum_zero zero f h = refl
sum_zero (suc n) f h = let k = sum_zero n f (λ i low. h i (omega arith)) in let e =
    h n (omega arith) in omega arith

-- an amount goes from one number to another, or stays
pub sum_moved : (n p q d : ℕ) (f m g : ℕ → ℕ) → p < n → q < n → ((i : ℕ) → i ≢ p → m i ≡ f i) →
    m p + d ≡ f p → ((i : ℕ) → i ≢ q → g i ≡ m i) → g q ≡ m q + d →
    sum_below n g ≡ sum_below n f
sum_moved n p q d f m g lowp lowq hm dm hg dg =
    let a = sum_one n p m f lowp (λ i low ne. hm i ne) in
    let b = sum_one n q g m lowq (λ i low ne. hg i ne) in omega arith

-- ---- accounts

-- a kind that is the same is the same
same_kind_is : (a b : Kind) → same_kind a b ≡ true → a ≡ b
same_kind_is Steps Steps h = refl
same_kind_is Records Records h = refl
same_kind_is Locks Locks h = refl
same_kind_is _ _ h = grind arith

-- an account with less
pub less_balance : (k j : Kind) (n : ℕ) (a : AcctValue) → n ≤ a.balance k →
    (less k n a).balance j + cond (same_kind j k) n 0 ≡ a.balance j
less_balance k j n a h = elim (cases_Bool (same_kind j k)) [
  | inl e ↦
      let b = cond-true (same_kind j k) (a.balance k - n) (a.balance j) e in
      let d = cond-true (same_kind j k) n 0 e in
      let one = ap a.balance (same_kind_is j k e) in omega arith
  | inr e ↦
      let b = cond-false (same_kind j k) (a.balance k - n) (a.balance j) e in
      let d = cond-false (same_kind j k) n 0 e in omega arith
]

-- an account with more
pub more_balance : (k j : Kind) (n : ℕ) (a : AcctValue) →
    (more k n a).balance j ≡ a.balance j + cond (same_kind j k) n 0
more_balance k j n a = elim (cases_Bool (same_kind j k)) [
  | inl e ↦
      let b = cond-true (same_kind j k) (a.balance k + n) (a.balance j) e in
      let d = cond-true (same_kind j k) n 0 e in
      let one = ap a.balance (same_kind_is j k e) in omega arith
  | inr e ↦
      let b = cond-false (same_kind j k) (a.balance k + n) (a.balance j) e in
      let d = cond-false (same_kind j k) n 0 e in omega arith
]

-- a changed place
pub at_here : {A : Type 0} (i : ℕ) (v : A) (f : ℕ → A) → at i v f i ≡ v
at_here i v f = cond-true (i == i) v (f i) (eq-eqb i i refl)

-- any other place
pub at_other : {A : Type 0} (i j : ℕ) (v : A) (f : ℕ → A) → j ≢ i → at i v f j ≡ f j
at_other i j v f ne = cond-false (j == i) v (f j) (ne_eqb j i ne)

-- what an account has and has spent, and its grafts have
abbrev worth : Kind → AcctValue → (ℕ → Option GraftValue) → ℕ
worth j x row = x.balance j + x.spent j + sum_below 16 (λ pt. graft_balance j (row pt))

-- an account with less is worth less
worth_less : (k j : Kind) (n : ℕ) (x : AcctValue) (row : ℕ → Option GraftValue) → n ≤ x.balance k →
    worth j (less k n x) row + cond (same_kind j k) n 0 ≡ worth j x row
worth_less k j n x row h = let e = less_balance k j n x h in omega arith

-- an account with more is worth more
worth_more : (k j : Kind) (n : ℕ) (x : AcctValue) (row : ℕ → Option GraftValue) →
    worth j (more k n x) row ≡ worth j x row + cond (same_kind j k) n 0
worth_more k j n x row = let e = more_balance k j n x in omega arith

-- a gift
pub give_ledger : (a : Accounts) (p q : ℕ) (k : Kind) (n : ℕ) (j : Kind) → p < 16 → q < 16 →
    n ≤ (a.acct p).balance k →
    sum_below 16 (ledger (record a { acct = accounts_after a.acct p q k n }) j)
    ≡ sum_below 16 (ledger a j)
give_ledger a p q k n j lowp lowq h =
    let u : ℕ → AcctValue = at p (less k n (a.acct p)) a.acct in
    sum_moved 16 p q (cond (same_kind j k) n 0) (ledger a j) (ledger (record a { acct = u }) j)
    (ledger (record a { acct = accounts_after a.acct p q k n }) j) lowp lowq
    (λ i ne. ap (λ (x : AcctValue). worth j x (a.graft i))
    (at_other p i (less k n (a.acct p)) a.acct ne))
    (ap (λ (x : AcctValue). worth j x (a.graft p) + cond (same_kind j k) n 0)
    (at_here p (less k n (a.acct p)) a.acct) ∙ worth_less k j n (a.acct p) (a.graft p) h)
    (λ i ne. ap (λ (x : AcctValue). worth j x (a.graft i)) (at_other q i (more k n (u q)) u ne))
    (ap (λ (x : AcctValue). worth j x (a.graft q)) (at_here q (more k n (u q)) u)
    ∙ worth_more k j n (u q) (a.graft q))

-- ---- grafts

-- grafts of the same balances
same_grafts : (k : Kind) (f g : ℕ → Option GraftValue) →
    ((pt : ℕ) → graft_balance k (f pt) ≡ graft_balance k (g pt)) →
    sum_below 16 (λ pt. graft_balance k (f pt)) ≡ sum_below 16 (λ pt. graft_balance k (g pt))
same_grafts k f g h =
    sum_same 16 (λ pt. graft_balance k (f pt)) (λ pt. graft_balance k (g pt)) (λ i low. h i)

-- a graft of the same balance in the place of another
same_balance_at : (k : Kind) (p pt q pu : ℕ) (x : Option GraftValue) (f : ℕ → ℕ →
    Option GraftValue) → graft_balance k x ≡ graft_balance k (f p pt) →
    graft_balance k (at2 p pt x f q pu) ≡ graft_balance k (f q pu)
same_balance_at k p pt q pu x f h = grind (arith, nat_tests)

-- a graft changes that keeps its balances
pub graft_ledger : (a : Accounts) (p pt : ℕ) (x : Option GraftValue) (j : Kind) →
    graft_balance j x ≡ graft_balance j (a.graft p pt) →
    sum_below 16 (ledger (record a { graft = at2 p pt x a.graft }) j) ≡ sum_below 16 (ledger a j)
graft_ledger a p pt x j h =
    sum_same 16 (ledger (record a { graft = at2 p pt x a.graft }) j) (ledger a j)
    (λ q low. ap (λ n. (a.acct q).balance j + (a.acct q).spent j + n)
    (same_grafts j (at2 p pt x a.graft q) (a.graft q)
    (λ pu. same_balance_at j p pt q pu x a.graft h)))

-- grafts of another process
other_row : (p pt q : ℕ) (x : Option GraftValue) (f : ℕ → ℕ → Option GraftValue) (pu : ℕ) → q ≢ p →
    at2 p pt x f q pu ≡ f q pu
other_row p pt q x f pu ne = grind (arith, nat_tests)

-- the changed graft, and the others of the process
pub row_here : (p pt : ℕ) (x : Option GraftValue) (f : ℕ → ℕ → Option GraftValue) →
    at2 p pt x f p pt ≡ x
row_here p pt x f = grind (arith, nat_tests)

-- another graft of the process
pub row_other : (p pt pu : ℕ) (x : Option GraftValue) (f : ℕ → ℕ → Option GraftValue) → pu ≢ pt →
    at2 p pt x f p pu ≡ f p pu
row_other p pt pu x f ne = grind (arith, nat_tests)

-- an account that gains what a graft loses, or the other way round, is worth the same
pub exchange_ledger : (a : Accounts) (p pt : ℕ) (x : Option GraftValue) (y : AcctValue) (j : Kind) →
    pt < 16 → y.spent j ≡ (a.acct p).spent j →
    y.balance j + graft_balance j x ≡ (a.acct p).balance j + graft_balance j (a.graft p pt) →
    (q : ℕ) → ledger (record { graft = at2 p pt x a.graft; acct = at p y a.acct }) j q
    ≡ ledger a j q
exchange_ledger a p pt x y j low spent kept q = elim (cases_eq q p) [
  | inl e ↦ subst (λ i. ledger (record { graft = at2 p pt x a.graft; acct = at p y a.acct }) j i
      ≡ ledger a j i) (sym e) (own a p pt x y j low spent kept)
  | inr ne ↦
      ap (λ (z : AcctValue). z.balance j + z.spent j + sum_below 16
      (λ pu. graft_balance j (at2 p pt x a.graft q pu))) (at_other p q y a.acct ne)
      ∙ ap (λ n. (a.acct q).balance j + (a.acct q).spent j + n)
      (same_grafts j (at2 p pt x a.graft q) (a.graft q)
      (λ pu. ap (graft_balance j) (other_row p pt q x a.graft pu ne)))
]
  where
    -- the process itself
    own : (a : Accounts) (p pt : ℕ) (x : Option GraftValue) (y : AcctValue) (j : Kind) → pt < 16 →
        y.spent j ≡ (a.acct p).spent j →
        y.balance j + graft_balance j x ≡ (a.acct p).balance j + graft_balance j (a.graft p pt) →
        ledger (record { graft = at2 p pt x a.graft; acct = at p y a.acct }) j p ≡ ledger a j p
    own a p pt x y j low spent kept =
        let one = sum_one 16 pt (λ pu. graft_balance j (at2 p pt x a.graft p pu))
        (λ pu. graft_balance j (a.graft p pu)) low
        (λ i less ne. ap (graft_balance j) (row_other p pt i x a.graft ne)) in
        let here = ap (graft_balance j) (row_here p pt x a.graft) in
        ap (λ (z : AcctValue). z.balance j + z.spent j + sum_below 16
        (λ pu. graft_balance j (at2 p pt x a.graft p pu))) (at_here p y a.acct) ∙ omega arith

-- a graft is taken out
removed_ledger_by : (a : Accounts) (p pt : ℕ) (g : Option GraftValue) (j : Kind) → pt < 16 →
    a.graft p pt ≡ g → (q : ℕ) → ledger (removed_by p pt g a) j q ≡ ledger a j q
removed_ledger_by a p pt None j low e q = refl
removed_ledger_by a p pt (Some g) j low e q =
    exchange_ledger a p pt None (returned g (a.acct p)) j low refl
    (let b = ap (graft_balance j) e in omega arith) q

-- a graft is taken out
pub removed_ledger : (a : Accounts) (p pt : ℕ) (j : Kind) → pt < 16 → (q : ℕ) →
    ledger (removed p pt a) j q ≡ ledger a j q
removed_ledger a p pt j low q = removed_ledger_by a p pt (a.graft p pt) j low refl q

-- all grafts of a process are taken out
without_ledger : (p n : ℕ) (a : Accounts) (j : Kind) → n ≤ 16 → (q : ℕ) →
    ledger (without_grafts p n a) j q ≡ ledger a j q
without_ledger p zero a j low q = refl
without_ledger p (suc n) a j low q = without_ledger p n (removed p n a) j (omega arith) q
    ∙ removed_ledger a p n j (omega arith) q

-- ---- an account closed

-- without grafts an account is worth what it has and has spent
no_grafts : (j : Kind) (row : ℕ → Option GraftValue) → ((pt : ℕ) → pt < 16 → row pt ≡ None) →
    sum_below 16 (λ pt. graft_balance j (row pt)) ≡ 0
no_grafts j row h =
    sum_zero 16 (λ pt. graft_balance j (row pt)) (λ i low. ap (graft_balance j) (h i low))

-- the account of a process without grafts goes to process 0
closed_ledger : (p : ℕ) (a : Accounts) (j : Kind) → p < 16 → p ≢ 0 →
    ((pt : ℕ) → pt < 16 → a.graft p pt ≡ None) →
    sum_below 16 (ledger (account_closed p a) j) ≡ sum_below 16 (ledger a j)
closed_ledger p a j low ne none =
    let joint : AcctValue = joint_account (a.acct p) (a.acct 0) in
    let m : ℕ → AcctValue = at p empty_account a.acct in
    let grafts = no_grafts j (a.graft p) none in
    sum_moved 16 p 0 ((a.acct p).balance j + (a.acct p).spent j) (ledger a j)
    (ledger (record a { acct = m }) j) (ledger (account_closed p a) j) low (omega arith)
    (λ i other. ap (λ (x : AcctValue). worth j x (a.graft i))
    (at_other p i empty_account a.acct other))
    (ap (λ (x : AcctValue). worth j x (a.graft p) + ((a.acct p).balance j + (a.acct p).spent j))
    (at_here p empty_account a.acct) ∙ omega arith)
    (λ i other. closed_elsewhere a p j i other)
    (closed_root a p j ne)
  where
    -- every other account
    closed_elsewhere : (a : Accounts) (p : ℕ) (j : Kind) (i : ℕ) → i ≢ 0 →
        ledger (account_closed p a) j i ≡ ledger (record a { acct = at p empty_account a.acct }) j i
    closed_elsewhere a p j i other =
        ap (λ (x : AcctValue). worth j x (a.graft i))
        (ap (λ (x : AcctValue). cond (i == p) empty_account x)
        (at_other 0 i (joint_account (a.acct p) (a.acct 0)) a.acct other))

    -- the account of process 0
    closed_root : (a : Accounts) (p : ℕ) (j : Kind) → p ≢ 0 →
        ledger (account_closed p a) j 0
        ≡ ledger (record a { acct = at p empty_account a.acct }) j 0 +
        ((a.acct p).balance j + (a.acct p).spent j)
    closed_root a p j ne =
        let joint : AcctValue = joint_account (a.acct p) (a.acct 0) in
        let other : 0 ≢ p = λ e. ne (sym e) in
        let sum : worth j joint (a.graft 0)
        ≡ worth j (a.acct 0) (a.graft 0) + ((a.acct p).balance j + (a.acct p).spent j) =
        omega arith in
        ap (λ (x : AcctValue). worth j x (a.graft 0))
        (at_other p 0 empty_account (at 0 joint a.acct) other ∙ at_here 0 joint a.acct)
        ∙ sum ∙ ap (λ (x : AcctValue). worth j x (a.graft 0) +
        ((a.acct p).balance j + (a.acct p).spent j))
        (sym (at_other p 0 empty_account a.acct other))

-- an exit
pub exit_ledger : (p : ℕ) (a : Accounts) (j : Kind) → p < 16 → p ≢ 0 →
    sum_below 16 (ledger (account_closed p (without_grafts p 16 a)) j) ≡ sum_below 16 (ledger a j)
exit_ledger p a j low ne =
    closed_ledger p (without_grafts p 16 a) j low ne (λ pt less. graft_taken p 16 pt a less)
    ∙ sum_same 16 (ledger (without_grafts p 16 a) j) (ledger a j)
    (λ i less. without_ledger p 16 a j (omega arith) i)
