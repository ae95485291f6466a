-- What a piece asks of the process that makes its call.
use Rattle.std.specs.Prelude.{◌≡◌, ℕ, ◌<◌, ◌≤◌, true, List, Option, slice_index}
use Rattle.std.specs.Option.{IfSome}
use Rattle.kernel_model.specs.declared.QueueRow.{QueueRow}
use Rattle.kernel_model.specs.Policies.{lives}

-- process p may exit: it lives, and isn't the first
pub record CanExit (queue : List QueueRow) (p : ℕ) : Type 0 where
  pub lives : lives queue p ≡ true
  pub child : 0 < p

-- process p may take user lock u: it lives, and there is such a lock
pub record CanLock (queue : List QueueRow) (p u : ℕ) : Type 0 where
  pub lives : lives queue p ≡ true
  pub number : u < 16

-- process p may give to process q: it lives, and q is the number of a process
pub record CanGive (queue : List QueueRow) (p q : ℕ) : Type 0 where
  pub lives : lives queue p ≡ true
  pub receiver : q < 16

-- process p may take piece n of a yield with this answer, which chooses a process that lives
pub record CanYield (queue : List QueueRow) (p n : ℕ) (answer : Option (List ℕ)) : Type 0 where
  pub alive : lives queue p ≡ true
  pub fits : n ≤ 1
  pub right : IfSome answer (λ a. lives queue (slice_index a 0) ≡ true)
