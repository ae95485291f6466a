-- What must hold of a running kernel for its calls.
use Rattle.std.specs.Prelude.{◌≡◌, ℕ, ◌<◌, List, All}
use Rattle.kernel_data.specs.declared.Need.{Need}
use Rattle.kernel_model.specs.Laws.{IsInRange}
use Rattle.kernel_model.specs.Meaning.{Meaning}
use Rattle.placed_laws.specs.Placed.{placed_needs}
use Rattle.running_kernel.specs.declared.running.Running.{Running}
use Rattle.running_kernel.specs.Views.{placed_of, IsRunning, HasAbstraction}

-- A running kernel is sound: what always holds of it holds, and it stands for some abstract kernel.
pub record IsSound {C B M : Type 0} {P : _} (m : Meaning) (x : Running C B M P) : Type 0 where
  pub running : IsRunning x
  pub abstraction : HasAbstraction m (placed_of x)

-- ---- a process of it

-- a running kernel, and the number of a process
pub record HasProcess {C B M : Type 0} {P : _} (x : Running C B M P) (p : ℕ) : Type 0 where
  pub process : p < 16
  pub running : IsRunning x

-- a sound kernel, and the number of a process
pub record IsSoundFor {C B M : Type 0} {P : _} (m : Meaning) (x : Running C B M P) (p : ℕ) :
    Type 0 where
  pub process : p < 16
  pub running : IsRunning x
  pub abstraction : HasAbstraction m (placed_of x)

-- what the next step of the call of process p needs, in a running kernel
pub record AreNeeds {C B M : Type 0} {P : _} (m : Meaning) (x : Running C B M P) (p : ℕ)
    (needs : List Need) : Type 0 where
  pub process : p < 16
  pub running : IsRunning x
  pub value : needs ≡ placed_needs m (placed_of x) p
  pub range : All (λ (n : Need). IsInRange n.object) needs
