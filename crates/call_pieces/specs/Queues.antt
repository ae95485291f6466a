-- The queue after a piece.
use Rattle.std.specs.Prelude.{ℕ, zero, suc, List, Option}
use Rattle.kernel_model.specs.declared.SysCall.{SysCall}
use Rattle.kernel_model.specs.declared.SysCall.TheVariants.{Spawn, Exit, Yield}
use Rattle.kernel_model.specs.declared.QueueRow.{QueueRow}
use Rattle.kernel_model.specs.Objects.{PolValue}
use Rattle.kernel_model.specs.Queue.{queue_without}
use Rattle.kernel_model.specs.Needs.{free_process}
use Rattle.kernel_model.specs.Fetch.{chosen_by}
use Rattle.kernel_model.specs.Policies.{next_process, or_zero}
use Rattle.kernel_model.specs.Pieces.{to_back, add_slice}
use Rattle.kernel_state.specs.Stores.{queue_joined}

-- the process that is next by default
abbrev pub next_of : PolValue → List QueueRow → ℕ
next_of pol queue = or_zero (next_process pol queue)

-- the queue after the two pieces of a yield, with an answer or by default
abbrev pub queue_yielded : PolValue → Option (List ℕ) → ℕ → ℕ → List QueueRow → List QueueRow
queue_yielded pol answer zero p queue = to_back p queue
queue_yielded pol answer (suc n) p queue = add_slice (chosen_by answer (next_of pol queue)) queue

-- the queue after a piece of this number of a call of process p, with an answer or by default
abbrev pub queue_after : PolValue → Option (List ℕ) → SysCall → ℕ → ℕ → List QueueRow →
    List QueueRow
queue_after pol answer Spawn n p queue = queue_joined (free_process queue 16 0) queue
queue_after pol answer Exit n p queue = queue_without p queue
queue_after pol answer Yield n p queue = queue_yielded pol answer n p queue
queue_after pol answer _ n p queue = queue
