-- What an event makes of a running kernel, and what always holds of one.
use Rattle.std.specs.Prelude.{◌≡◌, ℕ, ◌≤◌, Bool, List, ◌++◌, Option}
use Rattle.call_pieces.specs.Calls.{Knows, Made, failures}
use Rattle.call_pieces.specs.Disks.{DiskSeen}
use Rattle.kernel_model.specs.declared.Event.{Event}
use Rattle.kernel_model.specs.declared.Note.{Note}
use Rattle.kernel_model.specs.World.{Blocks}
use Rattle.kernel_model.specs.Meaning.{Meaning}
use Rattle.kernel_model.specs.Kernel.{Kernel, Run}
use Rattle.kernel_model.specs.Events.{event}
use Rattle.kernel_model.specs.Sound.{IsAtRest}
use Rattle.placed_laws.specs.Placed.{Placed}
use Rattle.placed_laws.specs.Stands.{StandsFor}
use Rattle.running_kernel.specs.declared.running.Running.{Running}
use Rattle.kernel_steps.specs.Faults.{fault_notes}
use Rattle.running_kernel.specs.Views.{placed_of, IsRunning, HasAbstraction}

-- A kernel runs, stands for some abstract kernel, and had at most so many ticks.
pub record IsKernel {C B M : Type 0} {P : _} (m : Meaning) (most : ℕ) (x : Running C B M P) :
    Type 0 where
  pub running : IsRunning x
  pub abstraction : HasAbstraction m (placed_of x)
  pub clock : x.clock ≤ most

-- what is left of the definitions' event is what the code left: the kernel stands for the abstract
-- one, which rests, the disk tells its blocks, the notes are the same, and of the calls of the disk
-- that were told these are left
pub record EventIs (m : Meaning) (r : Run) (y : Placed) (notes : List Note)
    (known : Option (List (List ℕ))) (rest : List Bool) : Type 0 where
  pub stands : StandsFor m y r.kernel
  pub rests : IsAtRest m r.kernel
  pub blocks : Knows known r.blocks
  pub notes_are : notes ≡ r.notes
  pub left : r.io ≡ rest

-- An event of this number took one kernel in place to another, left these notes, and took the disk
-- from the one to the other: for every abstract kernel that the one stands for, and that rests, the
-- other stands for what the definitions' event makes of it. The definitions' event makes as many
-- calls of the disk as the code did, no fewer and no more: whatever later calls would do, it comes
-- to the same, and leaves them all.
pub record EventRefines (m : Meaning) (x y : Placed) (number : ℕ) (what : Event) (notes : List Note)
    (d e : DiskSeen) : Type 0 where
  -- which of its calls of the disk failed
  pub io : List Bool
  pub made : Made d e io
  pub is : (k : Kernel) (blocks : Blocks) (rest : List Bool) → StandsFor m x k → IsAtRest m k →
      Knows d.known blocks →
      EventIs m (event m k blocks number what (io ++ rest)) y notes e.known rest
  -- Whatever the disk tells: each note of a refusal because the disk failed has a failed call of its
  -- own, so the disk's count of faults rose by as many or more, up to its end.
  pub faulted : fault_notes notes ≤ failures io
