-- The order of waiting as the code keeps it.
use Rattle.std.specs.Prelude.{Bool, List, None, [], map, min, nat_le, nat_lt, not, option_map}
use Rattle.std.specs.Prelude.{slice_index_or, true, ℕ, ◌&&◌, ◌+◌, ◌-◌, ◌==◌, ◌^◌, ◌∷◌}
use Rattle.std.specs.List.{list_all, list_any}
use Rattle.kernel_model.specs.Kernel.{Blocker, Waiter}
use Rattle.running_kernel.specs.declared.order.Blocking.{Blocking}
use Rattle.running_kernel.specs.declared.order.Waiting.{Waiting}

-- what blocks a call
abbrev pub blocker_of : Blocking → Blocker
blocker_of b = record { object = b.object; holder = b.holder; call = b.call }

-- an entry of the order
abbrev pub entry_of : Waiting → Waiter
entry_of w = record {
  process = w.process;
  blocker = option_map blocker_of w.blocker;
  count = w.count;
}

-- the order
abbrev pub order_of : List Waiting → List Waiter
order_of ws = map entry_of ws

-- no entry has waited for more ticks than this
abbrev pub counts_within : ℕ → List Waiting → Bool
counts_within most ws = list_all (λ (w : Waiting). nat_le w.count most) ws

-- an entry that has just joined
abbrev pub joined : ℕ → Waiting
joined p = record { process = p; blocker = None; count = 0 }

-- the patience with each kind of object
abbrev pub patience_of : List ℕ → ℕ → ℕ
patience_of ns kind = slice_index_or ns kind 10

-- an entry one tick later, up to the end of its count
abbrev pub later : Waiting → Waiting
later w = record w { count = min (w.count + 1) (2 ^ 32 - 1) }

-- each entry is of a process that can be
abbrev pub are_processes : List Waiting → Bool
are_processes ws = list_all (λ (w : Waiting). nat_lt w.process 16) ws

-- the processes of entries
abbrev pub numbers_of : List Waiting → List ℕ
numbers_of ws = map (λ (w : Waiting). w.process) ws

-- a number stands in a list
abbrev pub has_number : ℕ → List ℕ → Bool
has_number p ns = list_any (λ n. n == p) ns

-- each number stands there once
abbrev pub are_once : List ℕ → Bool
are_once [] = true
are_once (n ∷ ns) = not (has_number n ns) && are_once ns
