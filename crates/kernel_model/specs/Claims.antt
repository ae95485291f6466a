-- Statements of what these definitions mean, in the subject's own words. They are only stated here;
-- docs/PROMISES.md says which are proved, and where.
use Rattle.std.specs.Prelude.{◌≡◌, ◌≢◌, ℕ, suc, ◌+◌, ◌*◌, ◌<◌, ◌≤◌, true, false, List, [], Contains}
use Rattle.std.specs.Prelude.{Option, Some, None, is_some, Ok, ⊤, ◌⊎◌}
use Rattle.kernel_data.specs.declared.Object.{Object}
use Rattle.kernel_data.specs.declared.Cause.{Cause}
use Rattle.kernel_data.specs.declared.Kind.{Kind}
use Rattle.kernel_model.specs.declared.Micro.{Micro}
use Rattle.kernel_data.specs.World.{World, ImageTable}
use Rattle.kernel_data.specs.Objects.{Objects, Accounts, SameAt}
use Rattle.kernel_model.specs.Charges.{funds, charge, removed}
use Rattle.kernel_model.specs.Meaning.{Meaning, Stage}
use Rattle.kernel_model.specs.Levels.{Config, Effect, Outcome, drop_level}
use Rattle.kernel_model.specs.GraftStep.{micro}
use Rattle.kernel_model.specs.History.{Mark, Trace, effect, replay, fallen}
use Rattle.kernel_model.specs.Kernel.{Call, Kernel, Run}
use Rattle.kernel_model.specs.Blocking.{config_in, config_of, levels_of, blocker}
use Rattle.kernel_model.specs.Settle.{step, settled}
use Rattle.kernel_model.specs.Events.{expired, tick_event, drop_call}
use Rattle.kernel_model.specs.InPlace.{Cut, is_changed_in, in_place, undone, store_below}
use Rattle.kernel_model.specs.Sound.{ledger, ImagesAreLoaded, IsSoundStore, IsSoundConfig}
use Rattle.kernel_model.specs.Sound.{IsSoundKernel, IsAtRest, HasWholeBlocks, count_of}
use Rattle.kernel_model.specs.Alike.{ConfigsAlike, Extends}
use Rattle.kernel_model.specs.Laws.{Laws}

-- ---- amounts

-- charging what the payer has, and removing a graft, leave every ledger as it was
pub record LedgersStay : Type 0 where
  pub charged : (a : Accounts) (q pt r : ℕ) (k j : Kind) → pt < 16 → 1 ≤ funds a q pt k →
      ledger (charge k q pt a) j r ≡ ledger a j r
  pub removed : (a : Accounts) (q pt r : ℕ) (j : Kind) → pt < 16 →
      ledger (removed q pt a) j r ≡ ledger a j r

-- ---- graft calls and their histories

-- an instruction does the same if more images are loaded
abbrev pub MoreImages : Type 0
MoreImages =
    (v : World) (images more : ImageTable) (p : ℕ) (c : Config) → Extends images more →
    ImagesAreLoaded images c.now.accounts →
    micro v more p c ≡ micro v images p c

-- an instruction changes only what some level holds exclusively, before it or after it
abbrev pub ChangesWhatIsHeld : Type 0
ChangesWhatIsHeld =
    (v : World) (images : ImageTable) (p : ℕ) (c : Config) (o : Object) → IsSoundConfig v c →
    is_changed_in c.levels o ≡ false →
    is_changed_in (micro v images p c).config.levels o ≡ false →
    SameAt o (micro v images p c).config.now c.now

-- an effect that is made again leaves a sound store sound
abbrev pub EffectsStaySound : Type 0
EffectsStaySound =
    (v : World) (q : ℕ) (e : Effect) (c d : Config) → IsSoundStore v c.now → effect q e c ≡ Some d →
    IsSoundStore v d.now

-- a sound graft call is still sound after each instruction that doesn't end it
abbrev pub ConfigsStaySound : Type 0
ConfigsStaySound =
    (v : World) (images : ImageTable) (p : ℕ) (c : Config) → IsSoundConfig v c →
    (micro v images p c).config.levels ≢ [] →
    IsSoundConfig v (micro v images p c).config

-- The history after the drop of a level above 0, by an instruction or a time-out, leads to the
-- config that the drop gave, if the level's graft was installed.
abbrev pub FallsReplay : Meaning → Type 0
FallsReplay m =
    (v : World) (images : ImageTable) (s : Objects) (p : ℕ) (t : Stage) (ks : List Mark)
    (now : Trace) (o : Outcome) (d q pt : ℕ) (cause why : Cause) →
    replay m v images s p t ks ≡ Some now →
    (o ≡ micro v images p now.config) ⊎
    (o ≡ drop_level v now.config.now now.config.levels (suc d) why) →
    o.said ≡ Micro.Dropped (suc d) q pt cause →
    is_some (now.config.now.accounts.graft q pt) ≡ true →
    config_in (replay m v images s p t (fallen now ks o.effects (suc d))) ≡ Some o.config

-- p's graft call is the same in another kernel, as far as it can tell
abbrev pub IsStable : Meaning → (k l : Kernel) → ℕ → Type 0
IsStable m k l p = (c : Config) → config_of m k p ≡ Some c → (d : Config)
    × (config_of m l p ≡ Some d) × ConfigsAlike c d

-- While a call is in a graft, no step and no drop of another call changes its replay: it has the
-- same levels, and the same values of all that they hold.
pub record Stability (m : Meaning) : Type 0 where
  pub steps : (r : Run) (p q : ℕ) (c : Call) → Laws m → IsSoundKernel m r.kernel →
      HasWholeBlocks r.kernel.world r.blocks → p ≢ q →
      r.kernel.call q ≡ Some c → blocker m r.kernel q ≡ None →
      IsStable m r.kernel (step m q r).kernel p
  pub drops : (r : Run) (p q : ℕ) (d : Option ℕ) (cause : Cause) → Laws m →
      IsSoundKernel m r.kernel → HasWholeBlocks r.kernel.world r.blocks →
      p ≢ q → IsStable m r.kernel (drop_call m q (r.kernel.call q) d cause r).kernel p

-- ---- rest

-- Settling from a sound kernel comes to rest after at most 256 steps, and after a tick's 288
-- actions no count has reached its patience.
pub record Rests (m : Meaning) : Type 0 where
  pub settling : (r : Run) → Laws m → IsSoundKernel m r.kernel →
      HasWholeBlocks r.kernel.world r.blocks → IsAtRest m (settled m r).kernel
  pub ticking : (r : Run) (number : ℕ) → Laws m → IsSoundKernel m r.kernel →
      HasWholeBlocks r.kernel.world r.blocks → IsAtRest m r.kernel →
      expired (tick_event m number r).kernel (tick_event m number r).kernel.order ≡ None

-- ---- the store in place

-- In the store in place, what a call holds exclusively is as in the call's replay, and what no call
-- holds exclusively is as committed.
pub record InPlaceReads (m : Meaning) : Type 0 where
  pub own : (k : Kernel) (p : ℕ) (c : Config) (o : Object) → IsSoundKernel m k →
      config_of m k p ≡ Some c →
      is_changed_in c.levels o ≡ true → SameAt o (in_place m k) c.now
  pub committed : (k : Kernel) (o : Object) →
      ((p : ℕ) → is_changed_in (levels_of m k p) o ≡ false) → SameAt o (in_place m k) k.objects

-- Undoing the records of the cut calls, newest first within each call and the calls in any order,
-- turns the store in place into the store below the cut.
abbrev pub UndoneIsBelow : Meaning → Type 0
UndoneIsBelow m =
    (k : Kernel) (cut : Cut) (ps : List ℕ) (o : Object) → Laws m → IsSoundKernel m k →
    ((p : ℕ) → count_of p ps ≤ 1) →
    ((p : ℕ) → is_some (cut p) ≡ true → Contains ps p) →
    SameAt o (undone m k cut ps) (store_below m k cut)
