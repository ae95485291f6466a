-- What keeps abstract kernels sound.
use Rattle.std.specs.Prelude.{◌≡◌, ℕ, ◌<◌, List, Bool, length, Some, None}
use Rattle.kernel_model.specs.declared.Cause.{Cause}
use Rattle.kernel_model.specs.declared.Event.{Event}
use Rattle.kernel_model.specs.World.{ImageTable, Blocks}
use Rattle.kernel_model.specs.Meaning.{Meaning}
use Rattle.kernel_model.specs.Levels.{Config}
use Rattle.kernel_model.specs.Kernel.{Call, Kernel, Run}
use Rattle.kernel_model.specs.Blocking.{config_of, levels_of, blocker}
use Rattle.kernel_model.specs.Settle.{step, settled}
use Rattle.kernel_model.specs.Events.{drop_call, event}
use Rattle.kernel_model.specs.Sound.{IsSoundKernel, HasWholeBlocks}
use Rattle.kernel_model.specs.Alike.{Extends}
use Rattle.kernel_model.specs.Laws.{Laws}
use Rattle.graft_laws.specs.Histories.{IsReplayed}

-- a run whose kernel is sound, and whose blocks are whole
pub record IsSoundRun (m : Meaning) (r : Run) : Type 0 where
  pub kernel : IsSoundKernel m r.kernel
  pub blocks : HasWholeBlocks r.kernel.world r.blocks

-- a run with these images loaded
abbrev pub with_images : ImageTable → Run → Run
with_images more r = record r { kernel = record (r.kernel) { images = more } }

-- a step of a call that nothing blocks keeps a run sound: also that of each object there are
-- sharers, or one owner
abbrev pub StepsStaySound : Meaning → Type 0
StepsStaySound m =
    (r : Run) (p : ℕ) (c : Call) → Laws m → IsSoundRun m r → r.kernel.call p ≡ Some c →
    blocker m r.kernel p ≡ None → IsSoundRun m (step m p r)

-- so does the drop of one of a call's levels
abbrev pub DropsStaySound : Meaning → Type 0
DropsStaySound m =
    (r : Run) (p n : ℕ) (cause : Cause) → Laws m → IsSoundRun m r →
    n < length (levels_of m r.kernel p) →
    IsSoundRun m (drop_call m p (r.kernel.call p) (Some n) cause r)

-- and settling
abbrev pub SettlingStaysSound : Meaning → Type 0
SettlingStaysSound m = (r : Run) → Laws m → IsSoundRun m r → IsSoundRun m (settled m r)

-- and every event
abbrev pub EventsStaySound : Meaning → Type 0
EventsStaySound m =
    (k : Kernel) (blocks : Blocks) (number : ℕ) (e : Event) (io : List Bool) → Laws m →
    IsSoundKernel m k →
    HasWholeBlocks k.world blocks → IsSoundRun m (event m k blocks number e io)

-- a call in a graft of a sound kernel is sound, and as in the committed state but for what its
-- levels hold exclusively
abbrev pub CallsReplay : Meaning → Type 0
CallsReplay m =
    (r : Run) (p : ℕ) (c : Config) → Laws m → IsSoundRun m r → config_of m r.kernel p ≡ Some c →
    IsReplayed r.kernel.world r.kernel.objects c

-- more images that are loaded keep a run sound, and leave each call in a graft where it is
abbrev pub ImagesStaySound : Meaning → Type 0
ImagesStaySound m =
    (r : Run) (more : ImageTable) → Laws m → IsSoundRun m r → Extends r.kernel.images more →
    IsSoundRun m (with_images more r)
    × ((p : ℕ) → config_of m (with_images more r).kernel p ≡ config_of m r.kernel p)
