-- Who pays for what a graft takes, and what becomes of its balances. All of this is only about
-- accounts and grafts.
use Rattle.std.specs.Prelude.{ℕ, zero, suc, ◌+◌, ◌-◌, true, false, cond, Option, Some, None}
use Rattle.kernel_data.specs.declared.Kind.{Kind}
use Rattle.kernel_data.specs.declared.Kind.TheVariants.{Steps}
use Rattle.kernel_data.specs.Objects.{Accounts, GraftValue, AcctValue, at, at2, at_kind}

-- the payer's balance: the graft's own, or the installer's if the graft is billed
abbrev pub payer_balance : Kind → AcctValue → Option GraftValue → ℕ
payer_balance k a None = 0
payer_balance k a (Some g) = cond g.billed (a.balance k) (g.balance k)

-- what the graft at (q, pt) can still pay of a kind
abbrev pub funds : Accounts → (q pt : ℕ) → Kind → ℕ
funds w q pt k = payer_balance k (w.acct q) (w.graft q pt)

-- an account with one more of a kind spent
abbrev pub spend : Kind → AcctValue → AcctValue
spend k a = record { balance = a.balance; spent = at_kind k (a.spent k + 1) a.spent }

-- an account that pays one of a kind
abbrev pub pay : Kind → AcctValue → AcctValue
pay k a = record {
  balance = at_kind k (a.balance k - 1) a.balance;
  spent = at_kind k (a.spent k + 1) a.spent;
}

-- a graft that pays one of a kind
abbrev pub taken_from : Kind → GraftValue → GraftValue
taken_from k g = record g { balance = at_kind k (g.balance k - 1) g.balance }

-- the installer's account pays
abbrev pub charge_account : Kind → ℕ → Accounts → Accounts
charge_account k q w = record w { acct = at q (pay k (w.acct q)) w.acct }

-- the graft pays, and its installer's account counts it as spent
abbrev pub charge_graft : Kind → (q pt : ℕ) → GraftValue → Accounts → Accounts
charge_graft k q pt g w =
    record {
      graft = at2 q pt (Some (taken_from k g)) w.graft;
      acct = at q (spend k (w.acct q)) w.acct;
    }

-- the graft pays, or its installer's account if the graft is billed
abbrev pub charge_by : Kind → (q pt : ℕ) → Option GraftValue → Accounts → Accounts
charge_by k q pt None w = w
charge_by k q pt (Some g) w =
    elim g.billed [ true ↦ charge_account k q w | false ↦ charge_graft k q pt g w ]

-- Charging one of a kind takes it from the payer, which is the graft itself or, if it is billed,
-- its installer's account, and adds it to what the installer has spent.
abbrev pub charge : Kind → (q pt : ℕ) → Accounts → Accounts
charge k q pt w = charge_by k q pt (w.graft q pt) w

-- this many steps are charged, one after another
abbrev pub charged_steps : ℕ → (q pt : ℕ) → Accounts → Accounts
charged_steps zero q pt w = w
charged_steps (suc n) q pt w = charge Steps q pt (charged_steps n q pt w)

-- an account that gets a graft's balances back
abbrev pub returned : GraftValue → AcctValue → AcctValue
returned g a = record { balance = λ k. a.balance k + g.balance k; spent = a.spent }

-- a graft is taken out, if there is one, and its balances go back to its installer
abbrev pub removed_by : (q pt : ℕ) → Option GraftValue → Accounts → Accounts
removed_by q pt None w = w
removed_by q pt (Some g) w =
    record { graft = at2 q pt None w.graft; acct = at q (returned g (w.acct q)) w.acct }

-- removing the graft at (q, pt) takes it out and gives its balances back to its installer
abbrev pub removed : (q pt : ℕ) → Accounts → Accounts
removed q pt w = removed_by q pt (w.graft q pt) w
