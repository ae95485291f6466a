-- That a kernel in place comes to rest, and goes on to rest where a step leaves what a call holds.
use Rattle.std.specs.Prelude.{◌≡◌, ℕ, true, false, Some, None, length}
use Rattle.kernel_model.specs.declared.Object.{Object}
use Rattle.kernel_model.specs.Meaning.{Meaning}
use Rattle.kernel_model.specs.Kernel.{Run}
use Rattle.kernel_model.specs.Settle.{settled, step}
use Rattle.kernel_model.specs.Events.{in_order}
use Rattle.kernel_model.specs.Sound.{IsAtRest}
use Rattle.kernel_model.specs.Alike.{is_needed}
use Rattle.placed_laws.specs.Placed.{has_some, Placed, PlacedCall, PlacedRun, placed_holds}
use Rattle.placed_laws.specs.Placed.{placed_needs, placed_blocker}
use Rattle.placed_laws.specs.PlacedSteps.{placed_step}
use Rattle.placed_laws.specs.PlacedEvents.{placed_settled}
use Rattle.placed_laws.specs.Stands.{RunStandsFor}

-- after a step the call of p has as many levels as before, and they hold what the step needed as
-- before
pub record KeepsHolds (m : Meaning) (x y : Placed) (p : ℕ) : Type 0 where
  pub levels : length (y.levels p) ≡ length (x.levels p)
  pub holds : (d : ℕ) (o : Object) → is_needed o (placed_needs m x p) ≡ true →
      placed_holds y p d o ≡ placed_holds x p d o

-- the conditions of a step after which all others are blocked as they were: an instruction of a
-- call that isn't in the order, with which neither its levels nor what they hold has changed
pub record IsStill (m : Meaning) (x y : Placed) (p : ℕ) : Type 0 where
  pub level : has_some (x.levels p) ≡ true
  pub away : in_order p x.order ≡ false
  pub keeps : KeepsHolds m x y p

-- The law: settling leads to rest, and a kernel that rests goes on to rest.
pub record Resting (m : Meaning) : Type 0 where
  -- once all steps that can be taken are taken, the kernel rests
  pub settling : (x : PlacedRun) (r : Run) → RunStandsFor m x r →
      RunStandsFor m (placed_settled m x) (settled m r) × IsAtRest m (settled m r).kernel
  -- a kernel that rests has no step to take
  pub rested : (x : PlacedRun) (r : Run) → RunStandsFor m x r → IsAtRest m r.kernel →
      placed_settled m x ≡ x
  -- and rests after a step that leaves what its call holds
  pub still : (x : PlacedRun) (r : Run) (p : ℕ) (c : PlacedCall) → RunStandsFor m x r →
      IsAtRest m r.kernel → x.placed.call p ≡ Some c →
      placed_blocker m x.placed p ≡ None → IsStill m x.placed (placed_step m p x).placed p →
      IsAtRest m (step m p r).kernel
