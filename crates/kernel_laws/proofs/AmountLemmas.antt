-- Proofs of the laws of amounts.
use Rattle.std.specs.Prelude.{◌≡◌, ◌≢◌, ℕ, ◌+◌, ◌<◌, ◌≤◌, Bool, true, false, cond, Option, Some, None}
use Rattle.std.proofs.Common.{arith, refl, subst, sym, ap, ◌∙◌, inl, inr}
use Rattle.std.proofs.lemmas.Bool.{cases_eq}
use Rattle.std.proofs.lemmas.Bool.Decides.{nat_tests}
use Rattle.kernel_model.specs.declared.Kind.{Kind}
use Rattle.kernel_model.specs.declared.Kind.TheVariants.{Steps, Records, Locks}
use Rattle.kernel_model.specs.World.{World}
use Rattle.kernel_model.specs.Objects.{Objects, Accounts, GraftValue, AcctValue, at, at2}
use Rattle.kernel_model.specs.Charges.{payer_balance, funds, spend, pay, taken_from}
use Rattle.kernel_model.specs.Charges.{charge_account, charge_graft, charge_by, charge, removed}
use Rattle.kernel_model.specs.Charges.{removed_by}
use Rattle.kernel_model.specs.Claims.{LedgersStay}
use Rattle.kernel_model.specs.Pieces.{less, funded, accounts_funded}
use Rattle.kernel_model.specs.Sound.{sum_below, graft_balance, ledger, IsSoundStore}
use Rattle.call_laws.specs.Ledgers.{sum_same, sum_one, at_here, at_other, less_balance, row_here}
use Rattle.call_laws.specs.Ledgers.{more_balance, give_ledger, removed_ledger, row_other}
use Rattle.kernel_laws.specs.Amounts.{total, GrantStays}

-- ---- a graft and its installer's account

-- a graft of another process
graft_elsewhere : (p pt q pu : ℕ) (x : Option GraftValue) (f : ℕ → ℕ → Option GraftValue) → q ≢ p →
    at2 p pt x f q pu ≡ f q pu
graft_elsewhere p pt q pu x f ne = grind (arith, nat_tests)

-- what the grafts of a row have
abbrev given_to : Kind → (ℕ → Option GraftValue) → ℕ
given_to k row = sum_below 16 (λ pt. graft_balance k (row pt))

-- what an account has and has spent
abbrev held_in : Kind → AcctValue → ℕ
held_in k a = a.balance k + a.spent k

-- accounts with another graft and account
abbrev exchanged : (p pt : ℕ) → Option GraftValue → AcctValue → Accounts → Accounts
exchanged p pt x y a = record { graft = at2 p pt x a.graft; acct = at p y a.acct }

-- the process itself
own_ledger : (a : Accounts) (p pt : ℕ) (x : Option GraftValue) (y : AcctValue) (j : Kind) → pt < 16 →
    held_in j y + graft_balance j x ≡ held_in j (a.acct p) + graft_balance j (a.graft p pt) →
    ledger (exchanged p pt x y a) j p ≡ ledger a j p
own_ledger a p pt x y j low kept =
    let one = sum_one 16 pt (λ pu. graft_balance j (at2 p pt x a.graft p pu)) (λ pu. graft_balance j (a.graft p pu)) low
    (λ i less ne. ap (graft_balance j) (row_other p pt i x a.graft ne)) in
    let here = ap (graft_balance j) (row_here p pt x a.graft) in
    ap (λ (z : AcctValue). held_in j z + given_to j (at2 p pt x a.graft p)) (at_here p y a.acct) ∙ omega arith

-- another process
other_ledger : (a : Accounts) (p pt q : ℕ) (x : Option GraftValue) (y : AcctValue) (j : Kind) → q ≢ p →
    ledger (exchanged p pt x y a) j q ≡ ledger a j q
other_ledger a p pt q x y j ne =
    ap (λ (z : AcctValue). held_in j z + given_to j (at2 p pt x a.graft q)) (at_other p q y a.acct ne)
    ∙ ap (λ n. held_in j (a.acct q) + n)
    (sum_same 16 (λ pu. graft_balance j (at2 p pt x a.graft q pu)) (λ pu. graft_balance j (a.graft q pu))
    (λ pu low. ap (graft_balance j) (graft_elsewhere p pt q pu x a.graft ne)))

-- what a graft and its installer's account have and have spent together stays
exchange_stays : (a : Accounts) (p pt q : ℕ) (x : Option GraftValue) (y : AcctValue) (j : Kind) → pt < 16 →
    held_in j y + graft_balance j x ≡ held_in j (a.acct p) + graft_balance j (a.graft p pt) →
    ledger (exchanged p pt x y a) j q ≡ ledger a j q
exchange_stays a p pt q x y j low kept = elim (cases_eq q p) [
  | inl e ↦ subst (λ i. ledger (exchanged p pt x y a) j i ≡ ledger a j i) (sym e) (own_ledger a p pt x y j low kept)
  | inr ne ↦ other_ledger a p pt q x y j ne
]

-- ---- charges

-- an account that pays one
paid_account : (k j : Kind) (x : AcctValue) → 1 ≤ x.balance k → held_in j (pay k x) ≡ held_in j x
paid_account Steps Steps x h = omega arith
paid_account Records Records x h = omega arith
paid_account Locks Locks x h = omega arith
paid_account _ _ x h = refl

-- an account for which a graft pays one
paid_graft : (k j : Kind) (x : AcctValue) (g : GraftValue) → 1 ≤ g.balance k →
    held_in j (spend k x) + (taken_from k g).balance j ≡ held_in j x + g.balance j
paid_graft Steps Steps x g h = omega arith
paid_graft Records Records x g h = omega arith
paid_graft Locks Locks x g h = omega arith
paid_graft _ _ x g h = refl

-- where the graft is known
charge_found : (a : Accounts) (q pt r : ℕ) (k j : Kind) (g : GraftValue) (billed : Bool) →
    a.graft q pt ≡ Some g → g.billed ≡ billed →
    pt < 16 → 1 ≤ cond billed ((a.acct q).balance k) (g.balance k) →
    ledger (elim billed as (λ _. Accounts) [
      | true ↦ charge_account k q a
      | false ↦ charge_graft k q pt g a
    ]) j r ≡ ledger a j r
charge_found a q pt r k j g true e b low enough = elim (cases_eq r q) [
  | inl same ↦ subst (λ i. ledger (charge_account k q a) j i ≡ ledger a j i) (sym same)
      (ap (λ (z : AcctValue). held_in j z + given_to j (a.graft q)) (at_here q (pay k (a.acct q)) a.acct)
      ∙ ap (λ n. n + given_to j (a.graft q)) (paid_account k j (a.acct q) enough))
  | inr ne ↦ ap (λ (z : AcctValue). held_in j z + given_to j (a.graft r)) (at_other q r (pay k (a.acct q)) a.acct ne)
]
charge_found a q pt r k j g false e b low enough =
    exchange_stays a q pt r (Some (taken_from k g)) (spend k (a.acct q)) j low
    (paid_graft k j (a.acct q) g enough ∙ ap (λ n. held_in j (a.acct q) + n) (sym (ap (graft_balance j) e)))

-- where a graft stands, or not
charge_ledger_by : (a : Accounts) (q pt r : ℕ) (k j : Kind) (g : Option GraftValue) → a.graft q pt ≡ g → pt < 16 →
    1 ≤ payer_balance k (a.acct q) g → ledger (charge_by k q pt g a) j r ≡ ledger a j r
charge_ledger_by a q pt r k j None e low enough = refl
charge_ledger_by a q pt r k j (Some g) e low enough = charge_found a q pt r k j g g.billed e refl low enough

-- one of a kind is charged
pub charge_ledger : (a : Accounts) (q pt r : ℕ) (k j : Kind) → pt < 16 → 1 ≤ funds a q pt k →
    ledger (charge k q pt a) j r ≡ ledger a j r
charge_ledger a q pt r k j low enough = charge_ledger_by a q pt r k j (a.graft q pt) refl low enough

-- charging what the payer has, and removing a graft, leave every ledger
pub ledgers_stay : LedgersStay
ledgers_stay = record { charged = charge_ledger; removed = λ a q pt r j low. removed_ledger a q pt j low r }

-- ---- totals

-- totals of the same ledgers
same_total : (a b : Accounts) (j : Kind) → ((r : ℕ) → ledger a j r ≡ ledger b j r) → total a j ≡ total b j
same_total a b j h = sum_same 16 (ledger a j) (ledger b j) (λ r low. h r)

-- a charge, by whether a graft stands
pub charge_total : (v : World) (s : Objects) (q pt : ℕ) (k j : Kind) (g : Option GraftValue) →
    s.accounts.graft q pt ≡ g → IsSoundStore v s →
    1 ≤ payer_balance k (s.accounts.acct q) g → total (charge_by k q pt g s.accounts) j ≡ total s.accounts j
charge_total v s q pt k j None e h enough = refl
charge_total v s q pt k j (Some g) e h enough =
    same_total (charge_by k q pt (Some g) s.accounts) s.accounts j
    (λ r. charge_ledger_by s.accounts q pt r k j (Some g) e (h.grafts q pt g e).0 enough)

-- a graft taken out, by whether one stands
remove_total : (v : World) (s : Objects) (q pt : ℕ) (j : Kind) (g : Option GraftValue) →
    s.accounts.graft q pt ≡ g → IsSoundStore v s →
    total (removed q pt s.accounts) j ≡ total s.accounts j
remove_total v s q pt j None e h = ap (λ x. total (removed_by q pt x s.accounts) j) e
remove_total v s q pt j (Some g) e h =
    same_total (removed q pt s.accounts) s.accounts j (λ r. removed_ledger s.accounts q pt j (h.grafts q pt g e).0 r)

-- the amount that goes to a graft
fund_account : (k j : Kind) (n : ℕ) (x : AcctValue) (g : GraftValue) → n ≤ x.balance k →
    held_in j (less k n x) + (funded k n g).balance j ≡ held_in j x + g.balance j
fund_account k j n x g h =
    let a = less_balance k j n x h in
    let other : AcctValue = record { balance = g.balance; spent = g.balance } in
    let b = more_balance k j n other in omega arith

-- an amount that goes to a graft
fund_total : (v : World) (s : Objects) (p pt : ℕ) (g : GraftValue) (k : Kind) (n : ℕ) (j : Kind) → IsSoundStore v s →
    s.accounts.graft p pt ≡ Some g → n ≤ (s.accounts.acct p).balance k →
    total (accounts_funded p pt k n g s.accounts) j ≡ total s.accounts j
fund_total v s p pt g k n j h e enough =
    same_total (accounts_funded p pt k n g s.accounts) s.accounts j
    (λ r. exchange_stays s.accounts p pt r (Some (funded k n g)) (less k n (s.accounts.acct p)) j (h.grafts p pt g e).0
    (fund_account k j n (s.accounts.acct p) g enough
    ∙ ap (λ m. held_in j (s.accounts.acct p) + m) (sym (ap (graft_balance j) e))))

-- the total of each kind is the grant, and stays it
pub grant_stays : GrantStays
grant_stays =
    record {
      charged = λ v s q pt k j h enough. charge_total v s q pt k j (s.accounts.graft q pt) refl h enough ∙ h.ledgers j;
      removed = λ v s q pt j h. remove_total v s q pt j (s.accounts.graft q pt) refl h ∙ h.ledgers j;
      given = λ v s p q k n j h own other enough.
          give_ledger s.accounts p q k n j (h.numbers p own) (h.numbers q other) enough ∙ h.ledgers j;
      funded = λ v s p pt g k n j h e enough. fund_total v s p pt g k n j h e enough ∙ h.ledgers j;
    }
