-- Definitions about the rows of the queue.
use Rattle.std.specs.Prelude.{◌≡◌, ◌<◌, ℕ, ◌+◌, ◌-◌, ◌^◌, min, true, false, cond, not, ◌==◌, List, [], ◌∷◌, filter}
use Rattle.kernel_data.specs.declared.QueueRow.{QueueRow}
use Rattle.kernel_data.specs.Policies.{lives}

-- c is the least number of a process, below 16, that isn't living
pub record IsLeastFree (rows : List QueueRow) (c : ℕ) : Type 0 where
  pub below : c < 16
  pub free : lives rows c ≡ false
  pub least : (q : ℕ) → q < c → lives rows q ≡ true

-- a process that has just joined: nice 20, slices 0
abbrev pub new_row : ℕ → QueueRow
new_row p = record { process = p; nice = 20; slices = 0 }

-- the queue without a process
abbrev pub queue_without : ℕ → List QueueRow → List QueueRow
queue_without p rows = filter (λ (r : QueueRow). not (r.process == p)) rows

-- one slice more, but at most 2^32 - 1, where the count ends
abbrev pub one_more_slice : ℕ → ℕ
one_more_slice n = min (n + 1) (2 ^ 32 - 1)

-- the slices of a process, 0 if it isn't living
abbrev pub slices_of : ℕ → List QueueRow → ℕ
slices_of p [] = 0
slices_of p (r ∷ rows) = cond (r.process == p) r.slices (slices_of p rows)
