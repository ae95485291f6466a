-- Nothing of any kind of amount is made or lost.
use Rattle.std.specs.Prelude.{◌≡◌, ℕ, ◌≤◌, true, Some}
use Rattle.kernel_model.specs.declared.Kind.{Kind}
use Rattle.kernel_model.specs.World.{World}
use Rattle.kernel_model.specs.Objects.{Objects, Accounts, GraftValue}
use Rattle.kernel_model.specs.Policies.{lives}
use Rattle.kernel_model.specs.Charges.{funds, charge, removed}
use Rattle.kernel_model.specs.Pieces.{accounts_after, accounts_funded}
use Rattle.kernel_model.specs.Sound.{sum_below, ledger, IsSoundStore}

-- what all processes have, have spent and have given to their grafts
abbrev pub total : Accounts → Kind → ℕ
total a k = sum_below 16 (ledger a k)

-- On a sound state the total of each kind is the grant, and stays it.
pub record GrantStays : Type 0 where
  -- where one of a kind is charged to a graft that can pay
  pub charged : (v : World) (s : Objects) (q pt : ℕ) (k j : Kind) → IsSoundStore v s →
      1 ≤ funds s.accounts q pt k →
      total (charge k q pt s.accounts) j ≡ v.grant
  -- where a graft is taken out
  pub removed : (v : World) (s : Objects) (q pt : ℕ) (j : Kind) → IsSoundStore v s →
      total (removed q pt s.accounts) j ≡ v.grant
  -- where a process gives to another what it has
  pub given : (v : World) (s : Objects) (p q : ℕ) (k : Kind) (n : ℕ) (j : Kind) → IsSoundStore v s →
      lives s.things.queue p ≡ true → lives s.things.queue q ≡ true →
      n ≤ (s.accounts.acct p).balance k →
      total (record (s.accounts) { acct = accounts_after s.accounts.acct p q k n }) j ≡ v.grant
  -- where a process gives to a graft what it has
  pub funded : (v : World) (s : Objects) (p pt : ℕ) (g : GraftValue) (k : Kind) (n : ℕ) (j : Kind) →
      IsSoundStore v s →
      s.accounts.graft p pt ≡ Some g → n ≤ (s.accounts.acct p).balance k →
      total (accounts_funded p pt k n g s.accounts) j ≡ v.grant
