-- The table of holds as masks, and what each level of each process holds by them.
use Rattle.std.specs.Prelude.{◌≡◌, ◌<◌, ℕ, ◌-◌, Bool, true, cond, ◌&&◌, ◌||◌, ◌==◌, nat_lt, nat_le}
use Rattle.std.specs.Prelude.{List, [], ◌∷◌, slice_index_or, Option, find}
use Rattle.std.specs.Int.{bit_at}
use Rattle.kernel_model.specs.declared.Held.{Held}
use Rattle.kernel_model.specs.declared.Mode.{Mode}
use Rattle.kernel_model.specs.Locks.{LockTable, stronger, conflicts, is_held}
use Rattle.kernel_model.specs.Objects.{at}
use Rattle.lock_table.specs.declared.Holds.{Holds}
use Rattle.lock_table.specs.Numbers.{number_of, is_in_range}

-- a mask has a level: its bit is set, of the four that count
unfoldable pub has_level : ℕ → ℕ → Bool
has_level mask d = nat_lt d 4 && bit_at mask d == 1

-- how a level holds an object, by the two masks of its process for it
abbrev pub held_by : Holds → ℕ → Held
held_by h d =
    cond (has_level h.exclusive d) Held.Exclusive
    (cond (has_level h.shared d) Held.Shared Held.Free)

-- no level holds
abbrev pub no_holds : Holds
no_holds = record { shared = 0; exclusive = 0 }

-- some level holds
abbrev pub is_used : Holds → Bool
is_used h = is_held (held_by h 0) || is_held (held_by h 1) || is_held (held_by h 2)
    || is_held (held_by h 3)

-- what the levels of one process hold of the object with a number, as masks
abbrev pub holds_at : List Holds → ℕ → Holds
holds_at masks n = slice_index_or masks n no_holds

-- how they hold it
abbrev pub levels_at : List Holds → ℕ → ℕ → Held
levels_at masks n d = held_by (holds_at masks n) d

-- the masks of one process
abbrev pub masks_of : List (List Holds) → ℕ → List Holds
masks_of calls p = slice_index_or calls p []

-- what level d holds goes to the level outside it
abbrev pub merged : ℕ → (ℕ → Held) → ℕ → Held
merged d h = at d Held.Free (at (d - 1) (stronger (h d) (h (d - 1))) h)

-- level d and those further inward let go
abbrev pub released : ℕ → (ℕ → Held) → ℕ → Held
released d h e = cond (nat_le d e) Held.Free (h e)

-- the table: what each level of each process holds of each object; nothing where a number is out of
-- its range
abbrev pub held : List (List Holds) → LockTable
held calls p d o =
    cond (nat_lt p 16 && is_in_range o) (levels_at (masks_of calls p) (number_of o) d) Held.Free

-- the outermost level of one process whose hold on the object with a number conflicts with a mode
abbrev pub conflicting_level : List Holds → ℕ → Mode → Option ℕ
conflicting_level masks n mode =
    find (λ d. conflicts (levels_at masks n d) mode) (0 ∷ 1 ∷ 2 ∷ 3 ∷ [])

-- the call of a process holds something: the object with this number
pub record HoldsSome (masks : List Holds) : Type 0 where
  pub number : ℕ
  pub below : number < 421
  pub used : is_used (holds_at masks number) ≡ true
