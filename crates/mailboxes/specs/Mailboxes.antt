-- A table of two calls: a mailbox of one word for each process. `poke p q x` posts the word x into
-- the box of process q, and `peek p 0` takes what lies in the caller's own box. The box of a process
-- is its cell 0, and is empty where that is 0. All else is refused here.
use Rattle.std.specs.Prelude.{ℕ, Bool, true, false, ◌==◌, nat_lt, List, [], ◌∷◌, Option, Some, None}
use Rattle.kernel_model.specs.declared.Need.{Need}
use Rattle.kernel_model.specs.declared.Object.TheVariants.{Cell, Queue}
use Rattle.kernel_model.specs.declared.SysCall.{SysCall}
use Rattle.kernel_model.specs.declared.SysCall.TheVariants.{Poke, Peek}
use Rattle.kernel_model.specs.declared.Refusal.{Refusal}
use Rattle.kernel_model.specs.declared.Refusal.TheVariants.{NoProcess, BadIndex, BadPoint, Taken}
use Rattle.kernel_model.specs.declared.Reply.TheVariants.{Plain, One}
use Rattle.kernel_model.specs.Objects.{Objects, with_things}
use Rattle.kernel_model.specs.Access.{set_cell}
use Rattle.kernel_model.specs.Policies.{lives}
use Rattle.kernel_model.specs.Early.{refused}
use Rattle.kernel_model.specs.Needs.{shared, exclusive}
use Rattle.quick_calls.specs.QuickTables.{QuickTable, Outcome, Leaves, Refused}

-- the two calls
abbrev pub is_letter_call : SysCall → Bool
is_letter_call (Poke q x) = true
is_letter_call (Peek k) = true
is_letter_call c = false

-- refused at once: a receiver above 15; the word 0, which would be no letter; a box but the own one
abbrev pub letter_refusal : SysCall → Option Refusal
letter_refusal (Poke q x) = refused (nat_lt 15 q) NoProcess (refused (x == 0) BadIndex None)
letter_refusal (Peek k) = refused (nat_lt 0 k) BadIndex None
letter_refusal c = Some BadPoint

-- the box of a process, where it lives
abbrev pub box_needs : ℕ → Bool → List Need
box_needs q true = exclusive (Cell q 0) ∷ []
box_needs q false = []

-- a post needs the queue, which shows whether the receiver lives, and then its box; a take needs the
-- own box
abbrev pub letter_needs : SysCall → Objects → ℕ → List Need
letter_needs (Poke q x) s p = shared Queue ∷ box_needs q (lives s.things.queue q)
letter_needs (Peek k) s p = exclusive (Cell p 0) ∷ []
letter_needs c s p = []

-- a state in which this word lies in the box of q
abbrev pub with_letter : ℕ → ℕ → Objects → Objects
with_letter q x s = with_things (set_cell q 0 x s.things) s

-- a post: refused where the receiver doesn't live, and where its box isn't empty
abbrev pub post : Objects → (q x : ℕ) → (alive empty : Bool) → Outcome
post s q x false empty = Refused NoProcess
post s q x true false = Refused Taken
post s q x true true = Leaves (with_letter q x s) Plain

-- a take answers the word, 0 where there is none
abbrev pub taken : Objects → ℕ → Outcome
taken s p = Leaves (with_letter p 0 s) (One (s.things.cell p 0))

-- what a call comes to
abbrev pub letter_outcome : SysCall → Objects → ℕ → Outcome
letter_outcome (Poke q x) s p = post s q x (lives s.things.queue q) (s.things.cell q 0 == 0)
letter_outcome (Peek k) s p = taken s p
letter_outcome c s p = Refused BadPoint

-- the table of mailboxes
abbrev pub mailboxes : QuickTable
mailboxes =
    record {
      owns = is_letter_call;
      refusal = λ p c. letter_refusal c;
      need = letter_needs;
      does = letter_outcome;
    }
