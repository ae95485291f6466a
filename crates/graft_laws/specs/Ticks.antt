-- That a tick ends.
use Rattle.std.specs.Prelude.{◌≡◌, ℕ, None}
use Rattle.kernel_model.specs.Meaning.{Meaning}
use Rattle.kernel_model.specs.Kernel.{Run}
use Rattle.kernel_model.specs.Events.{expired, tick_event}
use Rattle.kernel_model.specs.Sound.{IsSoundKernel, IsAtRest, HasWholeBlocks}
use Rattle.kernel_model.specs.Laws.{Laws}

-- a tick's 288 actions leave no count at its patience
abbrev pub TicksEnd : Meaning → Type 0
TicksEnd m =
    (r : Run) (number : ℕ) → Laws m → IsSoundKernel m r.kernel →
    HasWholeBlocks r.kernel.world r.blocks → IsAtRest m r.kernel →
    expired (tick_event m number r).kernel (tick_event m number r).kernel.order ≡ None
