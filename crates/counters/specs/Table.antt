-- A table of two calls: three counters that all processes share, and their limit. `poke p k x` adds
-- x to counter k, 0 to 2, and answers the sum, or is refused if the sum is above the limit;
-- `poke 0 3 x` makes x the limit, which only process 0 may; `peek p k` answers counter k, and the
-- limit if k is 3. They are the cells of process 0. Every other call is refused here.
use Rattle.std.specs.Prelude.{ℕ, ◌+◌, Bool, true, false, ◌==◌, ◌&&◌, nat_lt, List, [], ◌∷◌}
use Rattle.std.specs.Prelude.{Option, Some, None}
use Rattle.kernel_model.specs.declared.Need.{Need}
use Rattle.kernel_model.specs.declared.Object.TheVariants.{Cell, Queue}
use Rattle.kernel_model.specs.declared.SysCall.{SysCall}
use Rattle.kernel_model.specs.declared.SysCall.TheVariants.{Poke, Peek}
use Rattle.kernel_model.specs.declared.Refusal.{Refusal}
use Rattle.kernel_model.specs.declared.Refusal.TheVariants.{NoProcess, Denied, BadIndex, BadPoint}
use Rattle.kernel_model.specs.declared.Refusal.TheVariants.{Full}
use Rattle.kernel_model.specs.declared.Reply.TheVariants.{Plain, One}
use Rattle.kernel_model.specs.Objects.{Objects, with_things}
use Rattle.kernel_model.specs.Access.{set_cell}
use Rattle.kernel_model.specs.Policies.{lives}
use Rattle.kernel_model.specs.Early.{refused}
use Rattle.kernel_model.specs.Needs.{shared, exclusive}
use Rattle.quick_calls.specs.QuickTables.{QuickTable, Outcome, Leaves, Refused}

-- the two calls
abbrev pub is_own : SysCall → Bool
is_own (Poke k x) = true
is_own (Peek k) = true
is_own c = false

-- why a call of process p is refused at once: no such counter; the limit, by another than process 0
abbrev pub refusal : ℕ → SysCall → Option Refusal
refusal p (Poke k x) =
    refused (nat_lt 3 k) BadIndex (refused (k == 3 && nat_lt 0 p) Denied None)
refusal p (Peek k) = refused (nat_lt 3 k) BadIndex None
refusal p c = Some BadPoint

-- what a poke needs after the queue, by whether process 0 lives and whether it sets the limit: an
-- addition reads the limit and changes its counter
abbrev pub poke_needs : ℕ → (alive sets : Bool) → List Need
poke_needs k false sets = []
poke_needs k true true = exclusive (Cell 0 k) ∷ []
poke_needs k true false = shared (Cell 0 3) ∷ exclusive (Cell 0 k) ∷ []

-- what a peek needs after the queue
abbrev pub peek_needs : ℕ → (alive : Bool) → List Need
peek_needs k false = []
peek_needs k true = shared (Cell 0 k) ∷ []

-- the objects that a call needs, in order; the queue shows that process 0 lives
abbrev pub needs : SysCall → Objects → ℕ → List Need
needs (Poke k x) s p = shared Queue ∷ poke_needs k (lives s.things.queue 0) (k == 3)
needs (Peek k) s p = shared Queue ∷ peek_needs k (lives s.things.queue 0)
needs c s p = []

-- a state in which counter k is this word
abbrev pub with_counter : ℕ → ℕ → Objects → Objects
with_counter k x s = with_things (set_cell 0 k x s.things) s

-- a poke, by whether process 0 lives, whether it sets the limit, and whether the sum is above it
abbrev pub poked : Objects → (k x : ℕ) → (alive sets above : Bool) → Outcome
poked s k x false sets above = Refused NoProcess
poked s k x true true above = Leaves (with_counter k x s) Plain
poked s k x true false true = Refused Full
poked s k x true false false =
    Leaves (with_counter k (s.things.cell 0 k + x) s) (One (s.things.cell 0 k + x))

-- a peek, by whether process 0 lives
abbrev pub peeked : Objects → (k : ℕ) → (alive : Bool) → Outcome
peeked s k false = Refused NoProcess
peeked s k true = Leaves s (One (s.things.cell 0 k))

-- what a call comes to
abbrev pub does : SysCall → Objects → ℕ → Outcome
does (Poke k x) s p =
    poked s k x (lives s.things.queue 0) (k == 3)
    (nat_lt (s.things.cell 0 3) (s.things.cell 0 k + x))
does (Peek k) s p = peeked s k (lives s.things.queue 0)
does c s p = Refused BadPoint

-- the table of counters
abbrev pub counters : QuickTable
counters =
    record {
      owns = is_own;
      refusal = refusal;
      need = needs;
      does = does;
    }
