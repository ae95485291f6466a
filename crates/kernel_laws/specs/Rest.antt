-- When a kernel rests.
use Rattle.kernel_model.specs.Meaning.{Meaning}
use Rattle.kernel_model.specs.Kernel.{Run}
use Rattle.kernel_model.specs.Settle.{settled}
use Rattle.kernel_model.specs.Sound.{IsSoundKernel, IsAtRest, HasWholeBlocks}

-- from a sound kernel over whole blocks, 256 steps lead to rest: each entry of the order is
-- blocked, by what it keeps as its blocker
abbrev pub SettlesToRest : Meaning → Type 0
SettlesToRest m = (r : Run) → IsSoundKernel m r.kernel → HasWholeBlocks r.kernel.world r.blocks →
    IsAtRest m (settled m r).kernel
