-- What the arrays are seen as, once amounts of one kind changed.
use Rattle.std.proofs.Common.{◌≡◌, ◌≢◌, ℕ, ◌+◌, ◌*◌, ◌<◌, nat_lt, Bool, true, false, slice_index}
use Rattle.std.proofs.Common.{Option, Some, None, refl, ◌∙◌, ap, arith}
use Rattle.std.proofs.Math.Path.{fun_ext}
use Rattle.std.proofs.lemmas.Bool.Decides.{nat_tests}
use Rattle.kernel_model.specs.declared.Kind.{Kind}
use Rattle.kernel_model.specs.declared.Kind.TheVariants.{Steps, Records, Locks}
use Rattle.kernel_model.specs.Objects.{Accounts, GraftValue, AcctValue, at2, at_kind}
use Rattle.graft_accounts.specs.declared.rows.Standing.{Standing}
use Rattle.graft_accounts.specs.Sums.{Sums}
use Rattle.graft_accounts.specs.Table.{Table, sums_of, with_sums, standing_at, account_at, graft_at, accounts_of}
use Rattle.graft_accounts.proofs.Places.{at2_by, at_kind_same}

-- a number of each kind, by amounts
abbrev pub field_of : (Sums → ℕ) → Table → Kind → ℕ
field_of f t k = f (sums_of t k)

with_field : (f : Sums → ℕ) (k j : Kind) (s : Sums) (t : Table) →
    field_of f (with_sums k s t) j ≡ at_kind k (f s) (field_of f t) j
with_field f Steps Steps s t = refl
with_field f Steps Records s t = refl
with_field f Steps Locks s t = refl
with_field f Records Steps s t = refl
with_field f Records Records s t = refl
with_field f Records Locks s t = refl
with_field f Locks Steps s t = refl
with_field f Locks Records s t = refl
with_field f Locks Locks s t = refl

-- the numbers of all kinds, after one kind's amounts changed
pub with_fields : (f : Sums → ℕ) (k : Kind) (s : Sums) (t : Table) →
    field_of f (with_sums k s t) ≡ at_kind k (f s) (field_of f t)
with_fields f k s t = fun_ext (λ j. with_field f k j s t)

-- those that the change left
pub same_fields : (f : Sums → ℕ) (k : Kind) (s : Sums) (t : Table) → f s ≡ f (sums_of t k) →
    field_of f (with_sums k s t) ≡ field_of f t
same_fields f k s t e = with_fields f k s t ∙ ap (λ n. at_kind k n (field_of f t)) e ∙ at_kind_same k (field_of f t)

-- the same amounts are of the kind, and grafts stay in place
pub sums_with : (k : Kind) (s : Sums) (t : Table) → sums_of (with_sums k s t) k ≡ s
sums_with Steps s t = refl
sums_with Records s t = refl
sums_with Locks s t = refl

pub grafts_with : (k : Kind) (s : Sums) (t : Table) → (with_sums k s t).grafts ≡ t.grafts
grafts_with Steps s t = refl
grafts_with Records s t = refl
grafts_with Locks s t = refl

pub with_twice : (k : Kind) (r s : Sums) (t : Table) → with_sums k s (with_sums k r t) ≡ with_sums k s t
with_twice Steps r s t = refl
with_twice Records r s t = refl
with_twice Locks r s t = refl

-- ---- accounts

abbrev account : (balance spent : Kind → ℕ) → AcctValue
account b s = record { balance = b; spent = s }

account_alike : (b c s r : Kind → ℕ) → b ≡ c → s ≡ r → account b s ≡ account c r
account_alike b c s r e h = ap (λ x. account x s) e ∙ ap (account c) h

-- an account that no change reached
pub account_same : (k : Kind) (s : Sums) (t : Table) (r : ℕ) →
    slice_index s.balances r ≡ slice_index (sums_of t k).balances r →
    slice_index s.spent r ≡ slice_index (sums_of t k).spent r → account_at (with_sums k s t) r ≡ account_at t r
account_same k s t r e h =
    account_alike _ _ _ _ (same_fields (λ a. slice_index a.balances r) k s t e)
    (same_fields (λ a. slice_index a.spent r) k s t h)

-- an account with another balance of the kind
pub account_balance : (k : Kind) (s : Sums) (t : Table) (r n : ℕ) → slice_index s.balances r ≡ n →
    slice_index s.spent r ≡ slice_index (sums_of t k).spent r →
    account_at (with_sums k s t) r ≡ record (account_at t r) { balance = at_kind k n (account_at t r).balance }
account_balance k s t r n e h =
    account_alike _ _ _ _
    (with_fields (λ a. slice_index a.balances r) k s t ∙ ap (λ m. at_kind k m (account_at t r).balance) e)
    (same_fields (λ a. slice_index a.spent r) k s t h)

-- an account with another spent amount of the kind
pub account_spent : (k : Kind) (s : Sums) (t : Table) (r m : ℕ) →
    slice_index s.balances r ≡ slice_index (sums_of t k).balances r →
    slice_index s.spent r ≡ m → account_at (with_sums k s t) r
    ≡ record (account_at t r) { spent = at_kind k m (account_at t r).spent }
account_spent k s t r m e h =
    account_alike _ _ _ _
    (same_fields (λ a. slice_index a.balances r) k s t e)
    (with_fields (λ a. slice_index a.spent r) k s t ∙ ap (λ n. at_kind k n (account_at t r).spent) h)

-- an account with another balance and another spent amount of the kind
pub account_both : (k : Kind) (s : Sums) (t : Table) (r n m : ℕ) → slice_index s.balances r ≡ n →
    slice_index s.spent r ≡ m →
    account_at (with_sums k s t) r ≡ account (at_kind k n (account_at t r).balance) (at_kind k m (account_at t r).spent)
account_both k s t r n m e h =
    account_alike _ _ _ _
    (with_fields (λ a. slice_index a.balances r) k s t ∙ ap (λ x. at_kind k x (account_at t r).balance) e)
    (with_fields (λ a. slice_index a.spent r) k s t ∙ ap (λ x. at_kind k x (account_at t r).spent) h)

-- ---- grafts

abbrev pub graft_by : Standing → (Kind → ℕ) → Option GraftValue
graft_by g b = Some (record { image = g.image; limit = g.limit; billed = g.billed; balance = b })

-- grafts whose amounts are the same are the same
pub graft_alike : (t u : Table) (i : ℕ) (g : Option Standing) →
    field_of (λ a. slice_index a.funds i) t ≡ field_of (λ a. slice_index a.funds i) u →
    graft_at t i g ≡ graft_at u i g
graft_alike t u i None e = refl
graft_alike t u i (Some g) e = ap (graft_by g) e

abbrev accounts : (ℕ → ℕ → Option GraftValue) → (ℕ → AcctValue) → Accounts
accounts g a = record { graft = g; acct = a }

-- accounts and grafts by their parts
pub accounts_by : (t : Table) (g : ℕ → ℕ → Option GraftValue) (a : ℕ → AcctValue) →
    (accounts_of t).graft ≡ g → account_at t ≡ a →
    accounts_of t ≡ accounts g a
accounts_by t g a e h = ap (λ x. accounts x (account_at t)) e ∙ ap (accounts g) h

-- the graft at a point
pub graft_point : (t : Table) (q pt : ℕ) → pt < 16 →
    (accounts_of t).graft q pt ≡ graft_at t (16 * q + pt) (standing_at t (16 * q + pt))
graft_point t q pt h = let low : nat_lt pt 16 ≡ true = grind (arith, nat_tests) in rw low refl

graft_of : (t u : Table) (q pt : ℕ) (b : Bool) → nat_lt pt 16 ≡ b →
    (pt < 16 → graft_at t (16 * q + pt) (standing_at t (16 * q + pt))
    ≡ graft_at u (16 * q + pt) (standing_at u (16 * q + pt))) →
    (accounts_of t).graft q pt ≡ (accounts_of u).graft q pt
graft_of t u q pt true e h = let low : pt < 16 = grind (arith, nat_tests) in rw e (h low)
graft_of t u q pt false e h = rw e refl

-- all grafts are the same
pub grafts_same : (t u : Table) →
    ((i : ℕ) → graft_at t i (standing_at t i) ≡ graft_at u i (standing_at u i)) →
    (accounts_of t).graft ≡ (accounts_of u).graft
grafts_same t u h = fun_ext (λ q. fun_ext (λ pt. graft_of t u q pt (nat_lt pt 16) refl (λ low. h (16 * q + pt))))

-- two points of one place are one
apart_at : (p pt q pu : ℕ) → pt < 16 → pu < 16 → 16 * q + pu ≡ 16 * p + pt → (q ≡ p) × (pu ≡ pt)
apart_at p pt q pu h k e = (omega arith, omega arith)

-- all grafts but one are the same
pub grafts_but : (t u : Table) (p pt : ℕ) (x : Option GraftValue) → pt < 16 →
    graft_at t (16 * p + pt) (standing_at t (16 * p + pt)) ≡ x →
    ((i : ℕ) → i ≢ 16 * p + pt → graft_at t i (standing_at t i) ≡ graft_at u i (standing_at u i)) →
    (accounts_of t).graft ≡ at2 p pt x (accounts_of u).graft
grafts_but t u p pt x low here other =
    at2_by (accounts_of t).graft (accounts_of u).graft p pt x (graft_point t p pt low ∙ here)
    (λ q pu e. graft_of t u q pu (nat_lt pu 16) refl
    (λ less. other (16 * q + pu) (λ same. let no = apart_at p pt q pu low less same in
    let a : q ≡ p = no.0 in let b : pu ≡ pt = no.1 in grind (arith, nat_tests))))
