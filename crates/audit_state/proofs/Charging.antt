-- Changes of the accounts, one after the other.
use Rattle.std.proofs.Common.{◌≡◌, ℕ, suc, Option, refl, sym, ap, ◌∙◌}
use Rattle.std.proofs.Math.Path.{fun_ext}
use Rattle.kernel_model.specs.declared.Kind.{Kind}
use Rattle.kernel_model.specs.declared.Kind.TheVariants.{Steps, Records, Locks}
use Rattle.kernel_model.specs.Objects.{Accounts, GraftValue, AcctValue, at, at2}
use Rattle.kernel_model.specs.Charges.{removed}
use Rattle.kernel_model.specs.Pieces.{without_grafts, empty_account}
use Rattle.audit_state.specs.Accounts.{amount_of, no_amounts, account_of, no_account}

-- the graft changes, then the account
abbrev pub both_changed : (q pt : ℕ) → Option GraftValue → AcctValue → Accounts → Accounts
both_changed q pt g x a = record { graft = at2 q pt g a.graft; acct = at q x a.acct }

pub one_by_one : (a b c : Accounts) (q pt : ℕ) (g : Option GraftValue) (x : AcctValue) →
    b ≡ record { graft = at2 q pt g a.graft; acct = a.acct } →
    c ≡ record { graft = b.graft; acct = at q x b.acct } → c ≡ both_changed q pt g x a
one_by_one a b c q pt g x first second =
    second ∙ ap (λ (y : Accounts). record { graft = y.graft; acct = at q x y.acct }) first

-- an account changes
abbrev pub with_account : ℕ → AcctValue → Accounts → Accounts
with_account q x a = record { graft = a.graft; acct = at q x a.acct }

-- an account changes, then another by what it is then
pub account_by_account : (a b c : Accounts) (p q : ℕ) (x : AcctValue) (f : AcctValue → AcctValue) →
    b ≡ with_account p x a → c ≡ with_account q (f (b.acct q)) b →
    c ≡ with_account q (f (at p x a.acct q)) (with_account p x a)
account_by_account a b c p q x f first second =
    second ∙ ap (λ (y : Accounts). with_account q (f (y.acct q)) y) first

-- nothing of each kind
pub none_is : amount_of no_amounts ≡ (λ (k : Kind). 0)
none_is = fun_ext by_kind
  where
    by_kind : (k : Kind) → amount_of no_amounts k ≡ 0
    by_kind Steps = refl
    by_kind Records = refl
    by_kind Locks = refl

-- an account of nothing
pub no_account_is : account_of no_account ≡ empty_account
no_account_is = ap (λ (f : Kind → ℕ). record { balance = f; spent = f }) none_is

-- one more graft is taken out
pub one_less_point : (p m n k : ℕ) (a b t : Accounts) → m ≡ suc n → k ≡ n → b ≡ removed p n a →
    without_grafts p m a ≡ t → without_grafts p k b ≡ t
one_less_point p m n k a b t m_is k_is taken rest =
    ap (λ (j : ℕ). without_grafts p j b) k_is ∙ ap (without_grafts p n) taken
    ∙ sym (ap (λ (j : ℕ). without_grafts p j a) m_is) ∙ rest

-- no graft is left to be taken out
pub no_point : (p m : ℕ) (a t : Accounts) → m ≡ 0 → without_grafts p m a ≡ t → a ≡ t
no_point p m a t m_is rest = sym (ap (λ (j : ℕ). without_grafts p j a) m_is) ∙ rest
