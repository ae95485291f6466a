-- What a call asks of the places that it names.
use Rattle.std.specs.Prelude.{◌≡◌, ℕ, ◌<◌, true, List}
use Rattle.kernel_data.specs.declared.QueueRow.{QueueRow}
use Rattle.kernel_data.specs.Policies.{lives}

-- process p lives, and has this cell
pub record HasCell (queue : List QueueRow) (p k : ℕ) : Type 0 where
  pub lives : lives queue p ≡ true
  pub number : k < 4

-- process p lives, and has this descriptor
pub record HasDescriptor (queue : List QueueRow) (p fd : ℕ) : Type 0 where
  pub lives : lives queue p ≡ true
  pub number : fd < 4

-- process p lives, and has this point
pub record HasPoint (queue : List QueueRow) (p pt : ℕ) : Type 0 where
  pub lives : lives queue p ≡ true
  pub point : pt < 16
