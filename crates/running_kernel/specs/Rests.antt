-- What one look at the order of waiting finds and leaves.
use Rattle.std.specs.Prelude.{◌≡◌, ℕ, true, List, Option, is_some, option_map, IfSome, IfNone, drop, take}
use Rattle.kernel_model.specs.Meaning.{Meaning}
use Rattle.kernel_model.specs.Settle.{entry_with}
use Rattle.placed_laws.specs.Placed.{Placed, placed_blocker}
use Rattle.placed_laws.specs.PlacedSteps.{placed_first_free, placed_rested_order}
use Rattle.running_kernel.specs.declared.order.Waiting.{Waiting}
use Rattle.running_kernel.specs.declared.running.Running.{Running}
use Rattle.running_kernel.specs.Orders.{blocker_of, entry_of, order_of, are_processes, counts_within, numbers_of}
use Rattle.running_kernel.specs.Views.{placed_of}

-- The call of an entry is blocked, by what the entry keeps: it stays as it is at rest.
pub record KeepsBlocker (m : Meaning) (x : Placed) (w : Waiting) : Type 0 where
  pub some : is_some (option_map blocker_of w.blocker) ≡ true
  pub blocker : placed_blocker m x w.process ≡ option_map blocker_of w.blocker
  pub stays : entry_with (entry_of w) (option_map blocker_of w.blocker) ≡ entry_of w

-- these entries, each with its blocker
pub record AreRested (m : Meaning) (x : Placed) (old new : List Waiting) : Type 0 where
  pub value : order_of new ≡ placed_rested_order m x (order_of old)
  pub counts : (n : ℕ) → counts_within n old ≡ true → counts_within n new ≡ true
  pub processes : are_processes old ≡ true → are_processes new ≡ true
  pub numbers : numbers_of new ≡ numbers_of old

-- the entries from a place on have rested, and those before it stay
pub record AreRestedFrom (m : Meaning) (x : Placed) (i : ℕ) (old new : List Waiting) : Type 0 where
  pub before : take i new ≡ take i old
  pub from : AreRested m x (drop i old) (drop i new)

-- The first of the entries from a place on that nothing blocks: where there is one, nothing changes,
-- and else these entries rest, and nothing else changes.
pub record GoesFrom {C B M : Type 0} {P : _} (m : Meaning) (i : ℕ) (x y : Running C B M P)
    (result : Option ℕ) : Type 0 where
  pub next : result ≡ placed_first_free m (placed_of x) (order_of (drop i x.order))
  pub same : y ≡ record x { order = y.order }
  pub kept : IfSome result (λ _. y.order ≡ x.order)
  pub rested : IfNone result (AreRestedFrom m (placed_of x) i x.order y.order)
