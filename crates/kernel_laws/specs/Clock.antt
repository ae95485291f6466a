-- Which events raise the clock.
use Rattle.std.specs.Prelude.{◌≡◌, ℕ, suc, Bool, true, false, List}
use Rattle.kernel_model.specs.declared.Event.{Event}
use Rattle.kernel_model.specs.declared.Event.TheVariants.{Tick}
use Rattle.kernel_model.specs.World.{Blocks}
use Rattle.kernel_model.specs.Meaning.{Meaning}
use Rattle.kernel_model.specs.Kernel.{Kernel}
use Rattle.kernel_model.specs.Events.{event}

-- an event is a tick
abbrev pub is_tick : Event → Bool
is_tick Tick = true
is_tick e = false

-- a tick raises the clock by one
abbrev pub TicksRaiseTheClock : Meaning → Type 0
TicksRaiseTheClock m =
    (k : Kernel) (blocks : Blocks) (number : ℕ) (io : List Bool) →
    (event m k blocks number Tick io).kernel.clock ≡ suc k.clock

-- no other event changes the clock
abbrev pub OthersLeaveTheClock : Meaning → Type 0
OthersLeaveTheClock m =
    (k : Kernel) (blocks : Blocks) (number : ℕ) (e : Event) (io : List Bool) → is_tick e ≡ false →
    (event m k blocks number e io).kernel.clock ≡ k.clock
