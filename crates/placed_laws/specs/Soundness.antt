-- What stands for a sound kernel is sound in place, and its pieces are ready.
use Rattle.std.specs.Prelude.{◌≡◌, ◌<◌, ℕ, true, List, length, Some, None}
use Rattle.kernel_model.specs.declared.Cause.{Cause}
use Rattle.kernel_model.specs.declared.Micro.{Micro}
use Rattle.kernel_model.specs.Meaning.{Meaning}
use Rattle.kernel_model.specs.Levels.{answer_of, drop_level}
use Rattle.kernel_model.specs.GraftStep.{micro}
use Rattle.kernel_model.specs.Kernel.{Kernel, Run}
use Rattle.kernel_model.specs.Sound.{FitsDisk, ImagesAreLoaded, IsSoundConfig}
use Rattle.kernel_model.specs.Laws.{IsStanding, IsReady}
use Rattle.placed_laws.specs.Placed.{PlacedCall, Placed, PlacedRun, has_some, placed_levels, placed_config}
use Rattle.placed_laws.specs.Stands.{StandsFor, RunStandsFor}

-- What is sound of a kernel in place beside its store.
pub record SoundInPlace (m : Meaning) : Type 0 where
  -- the cache fits the disk
  pub disk : (x : Placed) (k : Kernel) → StandsFor m x k → FitsDisk x.world x.objects.things.cache
  -- the images of grafts are loaded
  pub images_loaded : (x : PlacedRun) (r : Run) → RunStandsFor m x r →
      ImagesAreLoaded x.placed.images x.placed.objects.accounts
  -- a call stands at its stage
  pub standing : (x : Placed) (k : Kernel) (p : ℕ) (c : PlacedCall) → StandsFor m x k →
      x.call p ≡ Some c → IsStanding m x.world x.images x.objects p c.stage
  -- a call with levels is a sound graft call over the store
  pub configs : (x : Placed) (k : Kernel) (p : ℕ) → StandsFor m x k → has_some (x.levels p) ≡ true →
      IsSoundConfig x.world (placed_config x p)

-- The pieces of calls are ready: at once by default, and where a graft call ends, with its answer
-- or by default.
pub record ReadyInPlace (m : Meaning) : Type 0 where
  pub at_once : (x : Placed) (k : Kernel) (p : ℕ) (c : PlacedCall) → StandsFor m x k →
      x.call p ≡ Some c → IsReady m x.world x.images x.objects p c.stage None
  pub completed : (x : Placed) (k : Kernel) (p : ℕ) (c : PlacedCall) (answer : List ℕ) →
      StandsFor m x k → x.call p ≡ Some c → has_some (x.levels p) ≡ true →
      (micro x.world x.images p (placed_config x p)).said ≡ Micro.Completed answer →
      IsReady m x.world x.images (micro x.world x.images p (placed_config x p)).config.now p c.stage
      (Some (answer_of answer (placed_levels x p)))
  pub lost : (x : Placed) (k : Kernel) (p : ℕ) (c : PlacedCall) → StandsFor m x k →
      x.call p ≡ Some c → has_some (x.levels p) ≡ true →
      IsReady m x.world x.images
      (micro x.world x.images p (placed_config x p)).config.now p c.stage None
  pub dropped : (x : Placed) (k : Kernel) (p : ℕ) (c : PlacedCall) (d : ℕ) (cause : Cause) →
      StandsFor m x k → x.call p ≡ Some c → d < length (x.levels p) →
      IsReady m x.world x.images
      (drop_level x.world x.objects (placed_levels x p) d cause).config.now p c.stage None
