-- Accounts and grafts: as arrays, and as the kernel's state sees them.
use Rattle.std.specs.Prelude.{◌≡◌, ℕ, ◌+◌, ◌*◌, true, false, cond, nat_lt, List, length}
use Rattle.std.specs.Prelude.{slice_index, slice_index_or, slice_set, Option, Some, None}
use Rattle.std.specs.Prelude.{option_map, Result, Ok, Err}
use Rattle.kernel_model.specs.declared.Kind.{Kind}
use Rattle.kernel_model.specs.declared.Kind.TheVariants.{Steps, Records, Locks}
use Rattle.kernel_model.specs.Objects.{Accounts, GraftValue, AcctValue}
use Rattle.kernel_model.specs.Pieces.{accounts_after, accounts_funded, with_graft}
use Rattle.kernel_model.specs.Sound.{sum_below, ledger}
use Rattle.graft_accounts.specs.declared.rows.Standing.{Standing}
use Rattle.graft_accounts.specs.declared.rows.GraftRow.{GraftRow}
use Rattle.graft_accounts.specs.Sums.{Sums, IsKept, given_back, closed}

-- the arrays
pub record Table : Type 0 where
  -- the graft at point pt of process q stands at 16 * q + pt
  pub grafts : List (Option Standing)
  pub steps : Sums
  pub records : Sums
  pub locks : Sums

-- these arrays
abbrev pub table_with : List (Option Standing) → (steps records locks : Sums) → Table
table_with grafts steps records locks =
    record { grafts = grafts; steps = steps; records = records; locks = locks }

-- the amounts of a kind
abbrev pub sums_of : Table → Kind → Sums
sums_of t Steps = t.steps
sums_of t Records = t.records
sums_of t Locks = t.locks

-- with other amounts of a kind
abbrev pub with_sums : Kind → Sums → Table → Table
with_sums Steps s t = record t { steps = s }
with_sums Records s t = record t { records = s }
with_sums Locks s t = record t { locks = s }

-- with what f makes of the amounts of a kind
abbrev pub within : Kind → (Sums → Sums) → Table → Table
within k f t = with_sums k (f (sums_of t k)) t

-- which graft stands at a place
abbrev pub standing_at : Table → ℕ → Option Standing
standing_at t i = slice_index_or t.grafts i None

-- what always holds of the arrays: where no graft stands there are no amounts, and nothing is made
-- or lost
pub record IsTable (t : Table) : Type 0 where
  pub grafts : length t.grafts ≡ 256
  pub steps : IsKept t.grafts t.steps
  pub records : IsKept t.grafts t.records
  pub locks : IsKept t.grafts t.locks

-- the arrays with this graft at a place
abbrev pub put_at : ℕ → Standing → Table → Table
put_at i g t = record t { grafts = slice_set t.grafts i (Some g) }

-- the arrays without the graft at a place, which p installed and gets its amounts back
abbrev pub taken_out : (p i : ℕ) → Table → Table
taken_out p i t =
    record {
      grafts = slice_set t.grafts i None;
      steps = given_back p i t.steps;
      records = given_back p i t.records;
      locks = given_back p i t.locks;
    }

-- the arrays where process 0 has what p had and had spent
abbrev pub closed_all : (p : ℕ) → Table → Table
closed_all p t =
    record {
      grafts = t.grafts;
      steps = closed p t.steps;
      records = closed p t.records;
      locks = closed p t.locks;
    }

-- ---- as the kernel's state sees them

-- the account of a process
abbrev pub account_at : Table → ℕ → AcctValue
account_at t q =
    record {
      balance = λ k. slice_index (sums_of t k).balances q;
      spent = λ k. slice_index (sums_of t k).spent q;
    }

-- the graft at a place
abbrev pub graft_at : Table → ℕ → Option Standing → Option GraftValue
graft_at t i s =
    option_map (λ (g : Standing). record {
      image = g.image;
      limit = g.limit;
      billed = g.billed;
      balance = λ k. slice_index (sums_of t k).funds i;
    }) s

-- accounts and grafts
abbrev pub accounts_of : Table → Accounts
accounts_of t =
    record {
      graft = λ q pt. cond (nat_lt pt 16)
          (graft_at t (16 * q + pt) (standing_at t (16 * q + pt))) None;
      acct = account_at t;
    }

-- what all processes have, have spent and have given to their grafts
abbrev pub total : Accounts → Kind → ℕ
total a k = sum_below 16 (ledger a k)

-- what a call makes of accounts and grafts: in all there is as much of each kind as before
pub record Balanced (old new : Table) (next : Accounts) : Type 0 where
  pub value : accounts_of new ≡ next
  pub sums : (j : Kind) → total (accounts_of new) j ≡ total (accounts_of old) j

-- ---- what the calls answer, and make of accounts and grafts

-- the row of a graft
abbrev pub row_of : GraftValue → GraftRow
row_of g =
    record {
      image = g.image;
      limit = g.limit;
      billed = g.billed;
      steps = g.balance Steps;
      records = g.balance Records;
      locks = g.balance Locks;
    }

-- the balance where it is smaller than what is asked for
abbrev pub short_of : (has n : ℕ) → Result Unit ℕ
short_of has n = elim (nat_lt has n) [ true ↦ Err has | false ↦ Ok tt ]

-- n goes from p to q, if p has as much
abbrev pub after_give : (p q : ℕ) → Kind → ℕ → Accounts → Accounts
after_give p q k n a =
    elim (nat_lt ((a.acct p).balance k) n) [
      | true ↦ a
      | false ↦ record a { acct = accounts_after a.acct p q k n }
    ]

-- n goes from p to this graft at its point, if p has as much
abbrev pub after_fund : (p pt : ℕ) → Kind → ℕ → Option GraftValue → Accounts → Accounts
after_fund p pt k n None a = a
after_fund p pt k n (Some g) a =
    elim (nat_lt ((a.acct p).balance k) n) [ true ↦ a | false ↦ accounts_funded p pt k n g a ]

-- from here on p pays for this graft at its point
abbrev pub after_bill : (p pt : ℕ) → Option GraftValue → Accounts → Accounts
after_bill p pt None a = a
after_bill p pt (Some g) a = with_graft p pt (record g { billed = true }) a
