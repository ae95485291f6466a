-- How a call begins at its event, or is refused at once.
use Rattle.std.specs.Prelude.{◌≡◌, ℕ, List, Some, Result, Ok, Err}
use Rattle.call_pieces.specs.Disks.{DiskSeen}
use Rattle.kernel_model.specs.declared.Note.{Note}
use Rattle.kernel_model.specs.declared.SysCall.{SysCall}
use Rattle.kernel_model.specs.declared.Refusal.{Refusal}
use Rattle.kernel_model.specs.Meaning.{Meaning, Stage}
use Rattle.call_pieces.specs.Stores.{world_of_store}
use Rattle.graft_loader.specs.Slots.{table_of}
use Rattle.placed_laws.specs.Keeping.{first_placed}
use Rattle.placed_laws.specs.PlacedSteps.{placed_joins, with_placed_call}
use Rattle.running_kernel.specs.declared.running.Running.{Running}
use Rattle.running_kernel.specs.Idle.{joined_in}
use Rattle.kernel_steps.specs.Begins.{NotBegun}
use Rattle.kernel_steps.specs.Moments.{kernel_moment}
use Rattle.kernel_steps.specs.Runs.{RefinesAndKeeps}

-- A call of p was granted, and joined the order, with which the kernel is y.
pub record Started {C B M : Type 0} {P : _} (m : Meaning) (p number : ℕ) (call : SysCall)
    (x y : Running C B M P) : Type 0 where
  pub first : Stage
  pub granted : m.early (world_of_store x.store) (table_of x.images) p call ≡ Ok first
  pub went : (kept : List Note) (d : DiskSeen) → RefinesAndKeeps m
      (λ r. placed_joins p (with_placed_call p (Some (first_placed number first)) r))
      (kernel_moment x kept d) (kernel_moment y kept d)

-- a call of p starts, and is still to join the order, or is refused at once
abbrev pub Starts : {C B M A : Type 0} {P : _} → Meaning → (p number : ℕ) → SysCall →
    (x y : Running C B M P) → Result A Refusal → Type 0
Starts m p number call x y (Ok _) = Started m p number call x (joined_in p y)
Starts m p number call x y (Err why) = NotBegun m p call why x y
