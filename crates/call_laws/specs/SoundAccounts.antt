-- A store stays sound when amounts are given, and when grafts are put in place, taken out, funded
-- or billed.
use Rattle.std.specs.Prelude.{◌≡◌, ℕ, ◌+◌, ◌<◌, ◌≤◌, ◌==◌, ◌&&◌, nat_lt, Bool, true, false, Option, None, Some}
use Rattle.std.proofs.Common.{◌⊎◌, arith, refl, subst, sym, ap, ◌∙◌, inl, inr}
use Rattle.std.proofs.lemmas.Bool.{cases_Bool, cond-true, cond-false, eqb-true, and_parts, ltb-false}
use Rattle.kernel_model.specs.declared.Kind.{Kind}
use Rattle.kernel_model.specs.World.{World, Blocks}
use Rattle.kernel_model.specs.Objects.{Objects, GraftValue, AcctValue, at, at2, with_accounts}
use Rattle.kernel_model.specs.Charges.{removed_by, returned}
use Rattle.kernel_model.specs.Policies.{lives}
use Rattle.kernel_model.specs.declared.Refusal.TheVariants.{Short}
use Rattle.kernel_model.specs.Meaning.{Piece}
use Rattle.kernel_model.specs.FilePieces.{leaves, refuses, well}
use Rattle.kernel_model.specs.Pieces.{give_piece, pay_piece, install_piece, remove_piece}
use Rattle.kernel_model.specs.Pieces.{fund_piece, bill_piece, less, more, accounts_after, funded}
use Rattle.kernel_model.specs.Pieces.{accounts_funded, with_graft, new_graft}
use Rattle.kernel_model.specs.Sound.{IsSoundStore, ledger, graft_balance}
use Rattle.call_laws.specs.SoundStores.{store_with_accounts, store_without_segment, not_gone}
use Rattle.call_laws.specs.Ledgers.{sum_same, less_balance, more_balance, give_ledger}
use Rattle.call_laws.specs.Ledgers.{graft_ledger, exchange_ledger, at_other}

-- ---- gifts

-- a gift of what is there
pub paid_store : (v : World) (s : Objects) (p q : ℕ) (k : Kind) (n : ℕ) → IsSoundStore v s →
    lives s.things.queue p ≡ true →
    lives s.things.queue q ≡ true → n ≤ (s.accounts.acct p).balance k →
    IsSoundStore v
    (with_accounts (record (s.accounts) { acct = accounts_after s.accounts.acct p q k n }) s)
paid_store v s p q k n h own other enough =
    store_with_accounts v s
    (record (s.accounts) { acct = accounts_after s.accounts.acct p q k n }) h (record {
      grafts = h.grafts;
      gone = λ i e.
          let u : ℕ → AcctValue = at p (less k n (s.accounts.acct p)) s.accounts.acct in
          at_other q i (more k n (u q)) u (not_gone s.things.queue q i other e)
          ∙ at_other p i (less k n (s.accounts.acct p)) s.accounts.acct
          (not_gone s.things.queue p i own e);
      ledgers = λ j. give_ledger s.accounts p q k n j (h.numbers p own) (h.numbers q other) enough;
    })

-- a gift, unless there is too little
pay_store : (v : World) (s : Objects) (p q : ℕ) (k : Kind) (n : ℕ) (blocks : Blocks)
    (short : Bool) → nat_lt ((s.accounts.acct p).balance k) n ≡ short →
    IsSoundStore v s → lives s.things.queue p ≡ true → lives s.things.queue q ≡ true →
    IsSoundStore v (pay_piece s p q k n blocks short).objects
pay_store v s p q k n blocks true e h own other = h
pay_store v s p q k n blocks false e h own other =
    paid_store v s p q k n h own other (ltb-false ((s.accounts.acct p).balance k) n e)

-- a gift
pub give_store : (v : World) (s : Objects) (p q : ℕ) (k : Kind) (n : ℕ) (blocks : Blocks)
    (alive : Bool) → lives s.things.queue q ≡ alive →
    IsSoundStore v s → lives s.things.queue p ≡ true →
    IsSoundStore v (give_piece s p q k n blocks alive).objects
give_store v s p q k n blocks false e h own = h
give_store v s p q k n blocks true e h own =
    pay_store v s p q k n blocks (nat_lt ((s.accounts.acct p).balance k) n) refl h own e

-- ---- grafts

-- a graft at a changed point: the new one, or the one that was there
graft_found : (p pt q pu : ℕ) (x : Option GraftValue) (graft : ℕ → ℕ → Option GraftValue) →
    ((q ≡ p) × (pu ≡ pt) × (at2 p pt x graft q pu ≡ x)) ⊎ (at2 p pt x graft q pu ≡ graft q pu)
graft_found p pt q pu x graft = elim (cases_Bool (q == p && pu == pt)) [
  | inl e ↦ let k = and_parts (q == p) (pu == pt) e in
      inl (eqb-true q p k.0, eqb-true pu pt k.1, cond-true (q == p && pu == pt) x (graft q pu) e)
  | inr e ↦ inr (cond-false (q == p && pu == pt) x (graft q pu) e)
]

-- grafts stand at points of living processes after one of a living process changed
grafts_sound : (s : Objects) (p pt : ℕ) (x : Option GraftValue) (q pu : ℕ) (g : GraftValue) →
    ((i pw : ℕ) (y : GraftValue) → s.accounts.graft i pw ≡ Some y → (pw < 16)
    × (lives s.things.queue i ≡ true)) → pt < 16 → lives s.things.queue p ≡ true →
    at2 p pt x s.accounts.graft q pu ≡ Some g → (pu < 16) × (lives s.things.queue q ≡ true)
grafts_sound s p pt x q pu g h low alive e = elim (graft_found p pt q pu x s.accounts.graft) [
  | inl a ↦ (subst (λ i. i < 16) (sym a.1) low, ap (lives s.things.queue) a.0 ∙ alive)
  | inr a ↦ h q pu g (sym a ∙ e)
]

-- a graft changes that keeps its balances
graft_store : (v : World) (s : Objects) (p pt : ℕ) (g : GraftValue) → IsSoundStore v s →
    lives s.things.queue p ≡ true → pt < 16 →
    ((k : Kind) → g.balance k ≡ graft_balance k (s.accounts.graft p pt)) →
    IsSoundStore v (with_accounts (with_graft p pt g s.accounts) s)
graft_store v s p pt g h alive low same =
    store_with_accounts v s (with_graft p pt g s.accounts) h (record {
      grafts = λ q pu x e. grafts_sound s p pt (Some g) q pu x h.grafts low alive e;
      gone = λ q e. refl;
      ledgers = λ k. graft_ledger s.accounts p pt (Some g) k (same k);
    })

-- a graft put in place
pub install_store : (v : World) (s : Objects) (p pt i limit : ℕ) (old : Option GraftValue)
    (blocks : Blocks) → s.accounts.graft p pt ≡ old →
    IsSoundStore v s → lives s.things.queue p ≡ true → pt < 16 →
    IsSoundStore v (install_piece s p pt (new_graft i limit) old blocks).objects
install_store v s p pt i limit (Some g) blocks e h alive low = h
install_store v s p pt i limit None blocks e h alive low =
    let g = new_graft i limit in
    store_without_segment v (with_accounts (with_graft p pt g s.accounts) s) p pt
    (graft_store v s p pt g h alive low (λ k. sym (ap (graft_balance k) e)))

-- a graft billed
pub bill_store : (v : World) (s : Objects) (p pt : ℕ) (old : Option GraftValue) (blocks : Blocks) →
    s.accounts.graft p pt ≡ old →
    IsSoundStore v s → lives s.things.queue p ≡ true → pt < 16 →
    IsSoundStore v (bill_piece s p pt old blocks).objects
bill_store v s p pt None blocks e h alive low = h
bill_store v s p pt (Some g) blocks e h alive low =
    graft_store v s p pt (record g { billed = true }) h alive low
    (λ k. sym (ap (graft_balance k) e))

-- an account and a graft change that are worth the same together
exchange_store : (v : World) (s : Objects) (p pt : ℕ) (x : Option GraftValue) (y : AcctValue) →
    IsSoundStore v s → lives s.things.queue p ≡ true → pt < 16 →
    ((k : Kind) → y.spent k ≡ (s.accounts.acct p).spent k) →
    ((k : Kind) → y.balance k + graft_balance k x
    ≡ (s.accounts.acct p).balance k + graft_balance k (s.accounts.graft p pt)) →
    IsSoundStore v (with_accounts (record {
      graft = at2 p pt x s.accounts.graft;
      acct = at p y s.accounts.acct;
    }) s)
exchange_store v s p pt x y h alive low spent kept =
    store_with_accounts v s (record {
      graft = at2 p pt x s.accounts.graft;
      acct = at p y s.accounts.acct;
    }) h (record {
      grafts = λ q pu g e. grafts_sound s p pt x q pu g h.grafts low alive e;
      gone = λ q e. at_other p q y s.accounts.acct (not_gone s.things.queue p q alive e);
      ledgers = λ k. sum_same 16
          (ledger (record { graft = at2 p pt x s.accounts.graft; acct = at p y s.accounts.acct }) k)
          (ledger s.accounts k)
          (λ q less. exchange_ledger s.accounts p pt x y k low (spent k) (kept k) q);
    })

-- a graft taken out of where one stands
taken_store : (v : World) (s : Objects) (p pt : ℕ) (x : Option GraftValue) →
    s.accounts.graft p pt ≡ x → IsSoundStore v s → lives s.things.queue p ≡ true → pt < 16 →
    IsSoundStore v (with_accounts (removed_by p pt x s.accounts) s)
taken_store v s p pt None e h alive low = h
taken_store v s p pt (Some g) e h alive low =
    exchange_store v s p pt None (returned g (s.accounts.acct p)) h alive low (λ k. refl)
    (λ k. let b = ap (graft_balance k) e in omega arith)

-- a graft taken out
pub remove_store : (v : World) (s : Objects) (p pt : ℕ) (old : Option GraftValue)
    (blocks : Blocks) →
    IsSoundStore v s → lives s.things.queue p ≡ true → pt < 16 →
    IsSoundStore v (remove_piece s p pt old blocks).objects
remove_store v s p pt None blocks h alive low = h
remove_store v s p pt (Some g) blocks h alive low =
    taken_store v s p pt (s.accounts.graft p pt) refl h alive low

-- what the account loses the graft gains
funded_kept : (k j : Kind) (n : ℕ) (x : AcctValue) (g : GraftValue) → n ≤ x.balance k →
    (less k n x).balance j + (funded k n g).balance j ≡ x.balance j + g.balance j
funded_kept k j n x g h =
    let a = less_balance k j n x h in
    let other : AcctValue = record { balance = g.balance; spent = g.balance } in
    let b = more_balance k j n other in omega arith

-- a graft funded
pub fund_store : (v : World) (s : Objects) (p pt : ℕ) (k : Kind) (n : ℕ) (old : Option GraftValue)
    (blocks : Blocks) → s.accounts.graft p pt ≡ old →
    IsSoundStore v s → lives s.things.queue p ≡ true → pt < 16 →
    IsSoundStore v (fund_piece s p pt k n old blocks).objects
fund_store v s p pt k n None blocks e h alive low = h
fund_store v s p pt k n (Some g) blocks e h alive low =
    (elim (nat_lt ((s.accounts.acct p).balance k) n) as
    (λ (b : Bool). nat_lt ((s.accounts.acct p).balance k) n ≡ b →
    IsSoundStore v (elim b as (λ (q : Bool). Piece) [
      | true ↦ refuses s blocks (Short ((s.accounts.acct p).balance k))
      | false ↦ leaves (with_accounts (accounts_funded p pt k n g s.accounts) s) blocks well
    ]).objects) [
      | true ↦ λ test. h
      | false ↦ λ test. exchange_store v s p pt (Some (funded k n g))
          (less k n (s.accounts.acct p)) h alive low (λ j. refl)
          (λ j. funded_kept k j n (s.accounts.acct p) g
          (ltb-false ((s.accounts.acct p).balance k) n test)
          ∙ ap (λ m. (s.accounts.acct p).balance j + m) (sym (ap (graft_balance j) e)))
    ]) refl
