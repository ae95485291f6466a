-- What an instruction of a graft call spends, and who has spent it.
use Rattle.std.specs.Prelude.{◌≡◌, ◌≢◌, ℕ, ◌+◌, ◌<◌, true, false, List, ◌∷◌}
use Rattle.script_model.specs.declared.Kind.{Kind}
use Rattle.script_model.specs.declared.Kind.TheVariants.{Steps}
use Rattle.script_model.specs.World.{World, ImageTable}
use Rattle.script_model.specs.Objects.{Objects, Accounts}
use Rattle.script_model.specs.Levels.{Level}
use Rattle.script_model.specs.GraftStep.{is_spent, micro}
use Rattle.script_model.specs.Sound.{ledger}

-- how many steps a process has spent
abbrev pub steps_of : Accounts → ℕ → ℕ
steps_of a q = (a.acct q).spent Steps

-- no process has spent more or fewer steps, and each ledger stays
pub record StepsStay (a b : Accounts) : Type 0 where
  pub steps : (q : ℕ) → steps_of b q ≡ steps_of a q
  pub ledgers : (q : ℕ) (k : Kind) → ledger b k q ≡ ledger a k q

-- process p has spent one step more, no other process has spent more or fewer, and each ledger
-- stays
pub record StepIsSpent (p : ℕ) (a b : Accounts) : Type 0 where
  pub own : steps_of b p ≡ steps_of a p + 1
  pub others : (q : ℕ) → q ≢ p → steps_of b q ≡ steps_of a q
  pub ledgers : (q : ℕ) (k : Kind) → ledger b k q ≡ ledger a k q

-- what the next instruction of a call's innermost level l makes of the accounts
pub record IsPaidFor (l : Level) (a b : Accounts) : Type 0 where
  -- a level that has a step left takes it from its own graft's payer, and whatever it does with it
  -- no more
  pub charged : is_spent a l ≡ false → StepIsSpent l.owner a b
  -- one that has none left is dropped, and nothing is charged
  pub uncharged : is_spent a l ≡ true → StepsStay a b

-- An instruction of process p's call is charged to who installed the graft that takes it, whichever
-- process p is. What it charges of records and locks, and a drop that it ends in, move amounts
-- within ledgers alone.
abbrev pub InstructionsArePaidFor : Type 0
InstructionsArePaidFor =
    (v : World) (images : ImageTable) (p : ℕ) (w : Objects) (l : Level) (ls : List Level) →
    l.point < 16 →
    IsPaidFor l w.accounts
    (micro v images p (record { now = w; levels = l ∷ ls })).config.now.accounts
