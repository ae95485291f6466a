-- The graft calls of a sound kernel.
use Rattle.std.specs.Prelude.{◌≡◌, ℕ, Some}
use Rattle.kernel_model.specs.Meaning.{Meaning}
use Rattle.kernel_model.specs.Levels.{Config}
use Rattle.kernel_model.specs.Kernel.{Kernel}
use Rattle.kernel_model.specs.Blocking.{config_of}
use Rattle.kernel_model.specs.Sound.{IsSoundConfig, IsSoundKernel}

-- the history of each call of a sound kernel leads to a sound graft call
abbrev pub CallsAreSound : Meaning → Type 0
CallsAreSound m = (k : Kernel) (p : ℕ) (c : Config) → IsSoundKernel m k → config_of m k p ≡ Some c →
    IsSoundConfig k.world c
