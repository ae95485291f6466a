-- The processes that hold each object, as masks, and what they say of the levels' masks.
use Rattle.std.specs.Prelude.{◌≡◌, ◌<◌, ℕ, Bool, true, false, ◌&&◌, ◌==◌, nat_lt, List, slice_index_or, is_some}
use Rattle.std.specs.Int.{bit_at}
use Rattle.kernel_model.specs.declared.Held.{Held}
use Rattle.kernel_model.specs.declared.Mode.{Mode}
use Rattle.lock_table.specs.declared.Holds.{Holds}
use Rattle.lock_table.specs.declared.Takers.{Takers}
use Rattle.lock_table.specs.Masks.{conflicting_level, levels_at, masks_of, HoldsSome}

-- a mask has a process: its bit is set, of the sixteen that count
unfoldable pub has_process : ℕ → ℕ → Bool
has_process mask p = nat_lt p 16 && bit_at mask p == 1

-- a mask has some process: this one
pub record HasSome (mask : ℕ) : Type 0 where
  pub process : ℕ
  pub below : process < 16
  pub is_there : has_process mask process ≡ true

-- no process holds
abbrev pub no_takers : Takers
no_takers = record { holding = 0; exclusive = 0 }

-- the processes of which the hold of some level conflicts with a mode
abbrev pub against : Takers → Mode → ℕ
against t Mode.Shared = t.exclusive
against t Mode.Exclusive = t.holding

-- process p is one of those of which the hold of some level conflicts with a mode
abbrev pub is_against : Takers → Mode → ℕ → Bool
is_against t mode p = has_process (against t mode) p

-- the processes that hold the object with a number
abbrev pub takers_at : List Takers → ℕ → Takers
takers_at takers n = slice_index_or takers n no_takers

-- Of process p's call the masks of processes say what these masks of levels say: for each object
-- and mode, whether the hold of some level conflicts.
pub record HasTaker (takers : List Takers) (p : ℕ) (masks : List Holds) : Type 0 where
  pub is_taker : (n : ℕ) (mode : Mode) →
      is_against (takers_at takers n) mode p ≡ is_some (conflicting_level masks n mode)

-- the masks of processes say of the call of each process what its masks of levels say
pub record AreTakers (takers : List Takers) (calls : List (List Holds)) : Type 0 where
  pub of_each : (p : ℕ) → HasTaker takers p (masks_of calls p)

-- of the processes other than p the masks of processes say the same as before
pub record AreOthersSame (p : ℕ) (old new : List Takers) : Type 0 where
  pub same : (q n : ℕ) (mode : Mode) → (q == p) ≡ false →
      is_against (takers_at new n) mode q ≡ is_against (takers_at old n) mode q

-- a mask has the processes whose calls hold something
pub record AreHolding (holding : ℕ) (calls : List (List Holds)) : Type 0 where
  pub some : (p : ℕ) → has_process holding p ≡ true → HoldsSome (masks_of calls p)
  pub none : (p n e : ℕ) → has_process holding p ≡ false →
      levels_at (masks_of calls p) n e ≡ Held.Free
