-- What must hold of a running kernel and its disk for a step, and what a change of an event under
-- way keeps.
use Rattle.std.specs.Prelude.{◌≡◌, ℕ, ◌<◌, List, length}
use Rattle.kernel_model.specs.declared.Note.{Note}
use Rattle.kernel_model.specs.Meaning.{Meaning}
use Rattle.call_pieces.specs.Stores.{world_of_store}
use Rattle.placed_laws.specs.Placed.{PlacedRun}
use Rattle.call_pieces.specs.Disks.{DiskSeen}
use Rattle.running_kernel.specs.declared.running.Running.{Running}
use Rattle.running_kernel.specs.Views.{placed_of, chain_of, IsRunning, HasAbstraction, Simulates}
use Rattle.kernel_steps.specs.Moments.{kernel_moment, KernelMoment}
use Rattle.kernel_steps.specs.Refines.{Refines, SimulatesNoting}

-- ---- a kernel and its disk

-- a sound kernel, whose disk this is
pub record IsSoundOn {C B M : Type 0} {P : _} (m : Meaning) (x : Running C B M P)
    (seen : DiskSeen) : Type 0 where
  pub running : IsRunning x
  pub abstraction : HasAbstraction m (placed_of x)
  pub disk : x.store.size ≡ seen.size

-- The call of process p can run: the kernel is sound, and its disk is this one.
pub record CanRun {C B M : Type 0} {P : _} (m : Meaning) (x : Running C B M P)
    (seen : DiskSeen) (p : ℕ) : Type 0 where
  pub process : p < 16
  pub running : IsRunning x
  pub abstraction : HasAbstraction m (placed_of x)
  pub disk : x.store.size ≡ seen.size

-- The call of process p can run, and has level d, counted from the outermost.
pub record HasLevel {C B M : Type 0} {P : _} (m : Meaning) (x : Running C B M P)
    (seen : DiskSeen) (p d : ℕ) : Type 0 where
  pub process : p < 16
  pub running : IsRunning x
  pub abstraction : HasAbstraction m (placed_of x)
  pub disk : x.store.size ≡ seen.size
  pub level : d < length (chain_of x p).levels

-- ---- what a change keeps

-- A change that makes no call of the disk, and says nothing, was made, and the kernel runs on.
pub record ChangesTo {C B M : Type 0} {P : _} (f : PlacedRun → PlacedRun)
    (x y : Running C B M P) : Type 0 where
  pub value : Simulates f (placed_of x) (placed_of y)
  pub running : IsRunning y

-- What always holds after a change: the kernel is sound. The set-up and the clock stay.
pub record KeepsRunning {C B M : Type 0} {P : _} (m : Meaning) (x y : Running C B M P) :
    Type 0 where
  pub running : IsRunning y
  pub abstraction : HasAbstraction m (placed_of y)
  pub world : world_of_store y.store ≡ world_of_store x.store
  pub clock : y.clock ≡ x.clock

-- A change that makes no call of the disk was made, which added these notes to those that are kept,
-- and the kernel runs on.
pub record ChangesNoting {C B M : Type 0} {P : _} (f : PlacedRun → PlacedRun) (more : List Note)
    (x y : Running C B M P) (kept kept_new : List Note) : Type 0 where
  pub value : SimulatesNoting f (placed_of x) (placed_of y) more kept kept_new
  pub running : IsRunning y

-- A change of an event under way was made, as `Refines` says it, and left a sound kernel. The
-- set-up and the clock stay.
pub record RefinesAndKeeps {C B M : Type 0} {P : _} (m : Meaning) (f : PlacedRun → PlacedRun)
    (a b : KernelMoment (Running C B M P)) : Type 0 where
  pub refines : Refines f (kernel_moment (placed_of a.kernel) a.notes a.disk)
      (kernel_moment (placed_of b.kernel) b.notes b.disk)
  pub running : IsRunning b.kernel
  pub abstraction : HasAbstraction m (placed_of b.kernel)
  pub world : world_of_store b.kernel.store ≡ world_of_store a.kernel.store
  pub clock : b.kernel.clock ≡ a.kernel.clock
