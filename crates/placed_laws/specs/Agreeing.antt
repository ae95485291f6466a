-- What a kernel in place and the abstract kernel that it stands for have in common.
use Rattle.std.specs.Prelude.{◌≡◌, ℕ, Some}
use Rattle.kernel_model.specs.declared.Object.{Object}
use Rattle.kernel_model.specs.Policies.{lives}
use Rattle.kernel_model.specs.Meaning.{Meaning, Stage}
use Rattle.kernel_model.specs.Kernel.{Blocker, Kernel, Run, has_level, is_at_piece}
use Rattle.kernel_model.specs.Blocking.{blocker, levels_of, needs, holds}
use Rattle.kernel_model.specs.Settle.{first_free, rested_order}
use Rattle.kernel_model.specs.Events.{wanted, innermost, graft_note}
use Rattle.kernel_model.specs.RawRows.{raw_rows}
use Rattle.placed_laws.specs.Placed.{has_some, Placed, placed_levels, placed_holds, placed_needs, placed_blocker}
use Rattle.placed_laws.specs.PlacedSteps.{is_placed_at_piece, placed_first_free, placed_rested_order}
use Rattle.placed_laws.specs.PlacedRows.{placed_rows}
use Rattle.placed_laws.specs.Stands.{StandsFor}

-- The same processes live, and stages fit and have pieces left alike.
pub record SameStages (m : Meaning) : Type 0 where
  pub living : (x : Placed) (k : Kernel) (q : ℕ) → StandsFor m x k →
      lives x.objects.things.queue q ≡ lives k.objects.things.queue q
  pub fits : (x : Placed) (k : Kernel) (p : ℕ) (t : Stage) → StandsFor m x k →
      m.fits x.world x.objects p t ≡ m.fits k.world k.objects p t
  pub left : (x : Placed) (k : Kernel) (p : ℕ) (t : Stage) → StandsFor m x k →
      m.left x.world x.objects p t ≡ m.left k.world k.objects p t

-- Who blocks whom, in which mode, and who is free.
pub record SameBlockers (m : Meaning) : Type 0 where
  pub blockers : (x : Placed) (k : Kernel) (p : ℕ) → StandsFor m x k →
      placed_blocker m x p ≡ blocker m k p
  -- a blocked call wants what hinders it in the same mode
  pub modes : (x : Placed) (k : Kernel) (p : ℕ) (b : Blocker) → StandsFor m x k →
      blocker m k p ≡ Some b →
      wanted b.object (placed_needs m x p) ≡ wanted b.object (needs m k p)
  pub held : (x : Placed) (k : Kernel) (q d : ℕ) (o : Object) → StandsFor m x k →
      placed_holds x q d o ≡ holds m k q d o
  pub free : (x : Placed) (k : Kernel) → StandsFor m x k →
      placed_first_free m x x.order ≡ first_free m k k.order
  pub order : (x : Placed) (k : Kernel) → StandsFor m x k →
      placed_rested_order m x x.order ≡ rested_order m k k.order

-- What is shown of a kernel and its calls.
pub record SameShown (m : Meaning) : Type 0 where
  pub rows : (x : Placed) (k : Kernel) → StandsFor m x k → placed_rows x ≡ raw_rows m k
  pub lines : (x : Placed) (k : Kernel) (p n : ℕ) (r : Run) → StandsFor m x k →
      graft_note n (placed_levels x p) r ≡ graft_note n (levels_of m k p) r
  pub inner : (x : Placed) (k : Kernel) (p : ℕ) → StandsFor m x k →
      innermost (placed_levels x p) ≡ innermost (levels_of m k p)
  -- a call has a history exactly where it has levels, and is at a piece exactly where it has none
  pub level : (x : Placed) (k : Kernel) (p : ℕ) → StandsFor m x k →
      has_level (k.call p) ≡ has_some (x.levels p)
  pub piece : (x : Placed) (k : Kernel) (p : ℕ) → StandsFor m x k →
      is_placed_at_piece (x.call p) (x.levels p) ≡ is_at_piece (k.call p)
