-- That a kernel in place goes on to stand for the abstract kernel, whatever both do.
use Rattle.std.specs.Prelude.{◌≡◌, ◌≢◌, ◌<◌, ℕ, true, false, [], Some, None, length, Ok}
use Rattle.kernel_model.specs.declared.Cause.{Cause}
use Rattle.kernel_model.specs.declared.Event.{Event}
use Rattle.kernel_model.specs.declared.Held.{Held}
use Rattle.kernel_model.specs.declared.Note.{Note}
use Rattle.kernel_model.specs.declared.Object.{Object}
use Rattle.kernel_model.specs.declared.SysCall.{SysCall}
use Rattle.kernel_model.specs.World.{ImageTable}
use Rattle.kernel_model.specs.Objects.{SameAt}
use Rattle.kernel_model.specs.Policies.{lives}
use Rattle.kernel_model.specs.Meaning.{Meaning, Stage}
use Rattle.kernel_model.specs.Kernel.{Call, Blocker, Kernel, Run, with_call, noted, joins, requeue}
use Rattle.kernel_model.specs.Settle.{step, rested}
use Rattle.kernel_model.specs.Events.{drop_call, in_order, ticked, event_on}
use Rattle.kernel_model.specs.Sound.{IsSoundKernel, IsAtRest}
use Rattle.kernel_model.specs.Alike.{Extends}
use Rattle.graft_laws.specs.Kernels.{with_images}
use Rattle.placed_laws.specs.Placed.{has_some, PlacedCall, Placed, PlacedRun, placed_holds, placed_blocker}
use Rattle.placed_laws.specs.PlacedSteps.{with_placed_call, placed_noted, placed_joins}
use Rattle.placed_laws.specs.PlacedSteps.{placed_requeue, placed_ticked, placed_rested_order}
use Rattle.placed_laws.specs.PlacedSteps.{with_placed_order, with_placed_images, placed_step}
use Rattle.placed_laws.specs.PlacedSteps.{placed_drop}
use Rattle.placed_laws.specs.PlacedEvents.{placed_event_on}
use Rattle.placed_laws.specs.Stands.{StandsFor, RunStandsFor}

-- ---- the beginning

-- a kernel in place in which no call is in flight, over the committed objects
abbrev pub quietly_placed : Kernel → Placed
quietly_placed k =
    record {
      world = k.world;
      images = k.images;
      objects = k.objects;
      clock = k.clock;
      call = λ p. None;
      levels = λ p. [];
      order = k.order;
    }

-- a sound kernel in which no call is in flight stands in place as it is
abbrev pub QuietKernelsStand : Meaning → Type 0
QuietKernelsStand m = (k : Kernel) → IsSoundKernel m k → ((p : ℕ) → k.call p ≡ None) →
    StandsFor m (quietly_placed k) k

-- ---- steps and drops

-- a step of a call that nothing blocks
abbrev pub StepsStand : Meaning → Type 0
StepsStand m =
    (x : PlacedRun) (r : Run) (p : ℕ) (c : PlacedCall) → RunStandsFor m x r →
    x.placed.call p ≡ Some c →
    placed_blocker m x.placed p ≡ None → RunStandsFor m (placed_step m p x) (step m p r)

-- the drop of one of a call's levels
abbrev pub DropsStand : Meaning → Type 0
DropsStand m =
    (x : PlacedRun) (r : Run) (p d : ℕ) (cause : Cause) → RunStandsFor m x r →
    d < length (x.placed.levels p) →
    RunStandsFor m (placed_drop m p d cause x) (drop_call m p (r.kernel.call p) (Some d) cause r)

-- What the call of another process q holds exclusively, at any of its levels, stays in the store
-- whatever p's call does or loses.
pub record HeldStays (m : Meaning) : Type 0 where
  -- a step of a call that nothing blocks
  pub steps : (x : PlacedRun) (r : Run) (p q d : ℕ) (c : PlacedCall) (o : Object) →
      RunStandsFor m x r → x.placed.call p ≡ Some c →
      placed_blocker m x.placed p ≡ None → q ≢ p → placed_holds x.placed q d o ≡ Held.Exclusive →
      SameAt o (placed_step m p x).placed.objects x.placed.objects
  -- the drop of one of a call's levels
  pub drops : (x : PlacedRun) (r : Run) (p q d n : ℕ) (cause : Cause) (o : Object) →
      RunStandsFor m x r → n < length (x.placed.levels p) →
      q ≢ p → placed_holds x.placed q d o ≡ Held.Exclusive →
      SameAt o (placed_drop m p n cause x).placed.objects x.placed.objects

-- ---- calls and the order of waiting

-- a call that has just begun
abbrev pub first_call : (number : ℕ) → Stage → Call
first_call number t = record { number = number; stage = t; marks = None }

-- and in place
abbrev pub first_placed : (number : ℕ) → Stage → PlacedCall
first_placed number t = record { number = number; stage = t }

-- What else befalls calls and their order.
pub record OthersStand (m : Meaning) : Type 0 where
  -- a note
  pub notes : (x : PlacedRun) (r : Run) (n : Note) → RunStandsFor m x r →
      RunStandsFor m (placed_noted n x) (noted n r)
  -- a living process without a call begins one that is granted
  pub beginning : (x : PlacedRun) (r : Run) (p number : ℕ) (call : SysCall) (t : Stage) →
      RunStandsFor m x r → x.placed.call p ≡ None →
      lives x.placed.objects.things.queue p ≡ true →
      m.early x.placed.world x.placed.images p call ≡ Ok t →
      RunStandsFor m (placed_joins p (with_placed_call p (Some (first_placed number t)) x))
      (joins p (with_call p (Some (first_call number t)) r))
  -- a call without levels ends
  pub ending : (x : PlacedRun) (r : Run) (p : ℕ) (c : PlacedCall) (n : Note) → RunStandsFor m x r →
      x.placed.call p ≡ Some c → x.placed.levels p ≡ [] →
      RunStandsFor m (placed_requeue p (placed_noted n (with_placed_call p None x)))
      (requeue p (noted n (with_call p None r)))
  -- a call in a graft that is blocked, and not in the order yet, joins it
  pub joining : (x : PlacedRun) (r : Run) (p : ℕ) (b : Blocker) → RunStandsFor m x r →
      has_some (x.placed.levels p) ≡ true → in_order p x.placed.order ≡ false →
      placed_blocker m x.placed p ≡ Some b → RunStandsFor m (placed_joins p x) (joins p r)
  -- the order is told its blockers
  pub resting : (x : PlacedRun) (r : Run) → RunStandsFor m x r →
      RunStandsFor m (with_placed_order (placed_rested_order m x.placed x.placed.order) x)
      (rested m r)
  -- the clock and the counts rise
  pub ticking : (x : PlacedRun) (r : Run) (number : ℕ) → RunStandsFor m x r →
      RunStandsFor m (placed_ticked number x) (ticked number r)
  -- more images are loaded
  pub images : (x : PlacedRun) (r : Run) (more : ImageTable) → RunStandsFor m x r →
      Extends x.placed.images more →
      RunStandsFor m (with_placed_images more x) (with_images more r)

-- a kernel that rests still rests with more images
abbrev pub ImagesKeepRest : Meaning → Type 0
ImagesKeepRest m =
    (k : Kernel) (more : ImageTable) → IsSoundKernel m k → Extends k.images more → IsAtRest m k →
    IsAtRest m (record k { images = more })

-- ---- events

-- An event from a kernel at rest: the same notes, blocks and disk calls, and a kernel that rests
-- again.
abbrev pub EventsStand : Meaning → Type 0
EventsStand m =
    (x : PlacedRun) (r : Run) (number : ℕ) (e : Event) → RunStandsFor m x r → IsAtRest m r.kernel →
    RunStandsFor m (placed_event_on m number e x) (event_on m number e r)
    × IsAtRest m (event_on m number e r).kernel
