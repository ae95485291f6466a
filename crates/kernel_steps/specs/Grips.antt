-- How a call holds what its next instruction needs.
use Rattle.std.specs.Prelude.{◌≡◌, ℕ, List, Option, Some, None, slice_get, ⊤}
use Rattle.kernel_model.specs.declared.Need.{Need}
use Rattle.kernel_model.specs.Locks.{Touched}
use Rattle.graft_levels.specs.declared.Holds.{Holds}
use Rattle.graft_levels.specs.Masks.{held_by}
use Rattle.kernel_steps.specs.declared.settled.HoldSnapshot.{HoldSnapshot}

-- how the levels hold the object of a need, where there is one
abbrev pub IsHold : (levels : ℕ → Touched) → Option Need → Option Holds → Type 0
IsHold levels None h = ⊤
IsHold levels (Some n) None = ⊥
IsHold levels (Some n) (Some h) = (d : ℕ) → held_by h d ≡ levels d n.object

-- how they hold the objects of the first three needs
pub record IsGrip (levels : ℕ → Touched) (ns : List Need) (g : HoldSnapshot) : Type 0 where
  pub first : IsHold levels (slice_get ns 0) g.first
  pub second : IsHold levels (slice_get ns 1) g.second
  pub third : IsHold levels (slice_get ns 2) g.third
