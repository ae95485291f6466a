-- The list of the objects that a process's call holds.
use Rattle.std.specs.Prelude.{◌≡◌, ℕ, ◌==◌, cond, List, length, filter}
use Rattle.lock_table.specs.declared.Holds.{Holds}
use Rattle.lock_table.specs.Masks.{is_used, holds_at}

-- how often a number stands in a list
abbrev pub times : ℕ → List ℕ → ℕ
times n numbers = length (filter (λ m. m == n) numbers)

-- the list has the number of each object that some level holds, once, and no other
pub record IsNoted (masks : List Holds) (numbers : List ℕ) : Type 0 where
  pub once : (n : ℕ) → times n numbers ≡ cond (is_used (holds_at masks n)) 1 0
