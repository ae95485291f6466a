-- A part of an event of a running kernel.
use Rattle.std.specs.Prelude.{◌≡◌, ℕ, suc, ◌+◌, ◌≤◌, Bool, true, false, not, ◌&&◌, is_some, List, ◌++◌, Some, None}
use Rattle.call_pieces.specs.Calls.{Knows, Made, failures}
use Rattle.kernel_model.specs.declared.Note.{Note}
use Rattle.kernel_model.specs.declared.Note.TheVariants.{Ran}
use Rattle.kernel_model.specs.World.{Blocks}
use Rattle.kernel_model.specs.Meaning.{Meaning}
use Rattle.kernel_model.specs.Events.{in_order}
use Rattle.kernel_model.specs.Kernel.{Kernel}
use Rattle.kernel_model.specs.Sound.{HasWholeBlocks, IsAtRest}
use Rattle.call_pieces.specs.Stores.{world_of_store}
use Rattle.placed_laws.specs.Placed.{Placed, PlacedRun, has_some, placed_blocker}
use Rattle.placed_laws.specs.Stands.{StandsFor}
use Rattle.placed_laws.specs.PlacedSteps.{placed_joins, placed_noted, placed_step}
use Rattle.placed_laws.specs.PlacedEvents.{placed_settle, placed_settled, placed_steps}
use Rattle.running_kernel.specs.declared.running.Running.{Running}
use Rattle.kernel_steps.specs.Faults.{fault_notes}
use Rattle.kernel_steps.specs.Moments.{kernel_moment, KernelMoment}
use Rattle.kernel_steps.specs.Runs.{KeepsRunning}
use Rattle.kernel_steps.specs.Refines.{first_notes, Refines, RunMatches}
use Rattle.running_kernel.specs.Views.{placed_of, run_of, IsRunning, HasAbstraction}

-- A change of an event under way was made with which the clock rises by one, and left a sound
-- kernel. The set-up stays.
pub record RefinesAndTicks {C B M : Type 0} {P : _} (m : Meaning) (f : PlacedRun → PlacedRun)
    (a b : KernelMoment (Running C B M P)) : Type 0 where
  pub refines : Refines f (kernel_moment (placed_of a.kernel) a.notes a.disk)
      (kernel_moment (placed_of b.kernel) b.notes b.disk)
  pub running : IsRunning b.kernel
  pub abstraction : HasAbstraction m (placed_of b.kernel)
  pub world : world_of_store b.kernel.store ≡ world_of_store a.kernel.store
  pub clock : b.kernel.clock ≡ suc a.kernel.clock

-- ---- from rest

-- A kernel in place stands for an abstract kernel that rests, over whole blocks.
pub record Rests (m : Meaning) (x : Placed) (blocks : Blocks) : Type 0 where
  pub kernel : Kernel
  pub stands : StandsFor m x kernel
  pub rests : IsAtRest m kernel
  pub whole : HasWholeBlocks kernel.world blocks

-- A change of an event under way did what is said of it wherever it began at rest, and left the
-- disk and the notes as `Refines` says.
pub record RefinesFromRest (m : Meaning) (f : PlacedRun → PlacedRun) (a b : KernelMoment Placed) :
    Type 0 where
  -- which of its calls of the disk failed
  pub io : List Bool
  pub made : Made a.disk b.disk io
  pub goes : (blocks : Blocks) (notes : List Note) (rest : List Bool) → Rests m a.kernel blocks →
      Knows a.disk.known blocks → a.notes ≡ first_notes notes →
      RunMatches (f (run_of a.kernel blocks notes (io ++ rest))) b.kernel b.notes b.disk.known rest
  pub faulted : fault_notes b.notes ≤ fault_notes a.notes + failures io

-- the same of one that leaves rest
pub record RefinesToRest (m : Meaning) (f : PlacedRun → PlacedRun) (a b : KernelMoment Placed) :
    Type 0 where
  pub refines : RefinesFromRest m f a b
  pub rests : (blocks : Blocks) (notes : List Note) (rest : List Bool) → Rests m a.kernel blocks →
      Knows a.disk.known blocks → a.notes ≡ first_notes notes →
      Rests m b.kernel (f (run_of a.kernel blocks notes (refines.io ++ rest))).blocks

-- a change of a running kernel that did so, and left a sound one
pub record RunsFromRest {C B M : Type 0} {P : _} (m : Meaning) (f : PlacedRun → PlacedRun)
    (a b : KernelMoment (Running C B M P)) : Type 0 where
  pub refines : RefinesFromRest m f (kernel_moment (placed_of a.kernel) a.notes a.disk)
      (kernel_moment (placed_of b.kernel) b.notes b.disk)
  pub on : KeepsRunning m a.kernel b.kernel

-- the same of one that leaves rest
pub record RunsToRest {C B M : Type 0} {P : _} (m : Meaning) (f : PlacedRun → PlacedRun)
    (a b : KernelMoment (Running C B M P)) : Type 0 where
  pub refines : RefinesToRest m f (kernel_moment (placed_of a.kernel) a.notes a.disk)
      (kernel_moment (placed_of b.kernel) b.notes b.disk)
  pub on : KeepsRunning m a.kernel b.kernel

-- ---- a call that begins

module _ (m : Meaning) where
  -- all steps that can be taken, of which the first is that of the call of p, if nothing blocks it:
  -- the same as all steps that can be taken, where each other call in the order is blocked
  abbrev pub settled_newest : ℕ → PlacedRun → PlacedRun
  settled_newest p r =
      elim (placed_blocker m r.placed p) [
        | Some b ↦ placed_settled m r
        | None ↦ placed_settle m 255 (placed_step m p r)
      ]

-- ---- instructions

module _ (m : Meaning) where
  -- the call of p takes up an instruction
  abbrev pub takes_up : Placed → ℕ → Bool
  takes_up x p = has_some (x.levels p) && not (in_order p x.order)
      && not (is_some (placed_blocker m x p))

  -- what the attempt makes of the kernel: a call that can't go on joins the order, where it has a
  -- level and isn't in it yet
  abbrev pub taken_up : ℕ → PlacedRun → PlacedRun
  taken_up p r =
      elim (has_some (r.placed.levels p) && not (in_order p r.placed.order)) [
        | false ↦ r
        | true ↦ elim (placed_blocker m r.placed p) [
          | Some b ↦ placed_settled m (placed_joins p r)
          | None ↦ placed_settled m (placed_step m p r)
        ]
      ]

  -- at most so many instructions, so many having been taken, and the note of how many
  abbrev pub steps_said : (number p left taken : ℕ) → PlacedRun → PlacedRun
  steps_said number p left taken r = let s = placed_steps m p left taken r in
      placed_noted (Ran number s.0) s.1

  -- the same where the call goes on, and else the note
  abbrev pub steps_left : (number p left taken : ℕ) → (going : Bool) → PlacedRun → PlacedRun
  steps_left number p left taken true r = steps_said number p left taken r
  steps_left number p left taken false r = placed_noted (Ran number taken) r

-- From rest, so many instructions of the call of p lead from x to y: what follows them begins
-- there, at rest.
pub record Leads (m : Meaning) (p n : ℕ) (x y : Placed) : Type 0 where
  pub steps : (left taken : ℕ) (blocks : Blocks) (notes : List Note) (io : List Bool) →
      Rests m x blocks →
      placed_steps m p (n + left) taken (run_of x blocks notes io)
      ≡ placed_steps m p left (taken + n) (run_of y blocks notes io)
  pub rests : (blocks : Blocks) → Rests m x blocks → Rests m y blocks

-- A change of an event under way has come, from rest, to a point of rest from which this is left of
-- it.
pub record HasReached (m : Meaning) (f left : PlacedRun → PlacedRun) (a b : KernelMoment Placed) :
    Type 0 where
  pub io : List Bool
  pub made : Made a.disk b.disk io
  pub now : Blocks → List Note → List Bool → PlacedRun
  pub came : (blocks : Blocks) (notes : List Note) (rest : List Bool) → Rests m a.kernel blocks →
      Knows a.disk.known blocks → a.notes ≡ first_notes notes →
      RunMatches (now blocks notes rest) b.kernel b.notes b.disk.known rest
      × Rests m b.kernel (now blocks notes rest).blocks
  pub goes : (blocks : Blocks) (notes : List Note) (rest : List Bool) → Rests m a.kernel blocks →
      Knows a.disk.known blocks → a.notes ≡ first_notes notes →
      f (run_of a.kernel blocks notes (io ++ rest)) ≡ left (now blocks notes rest)
  pub faulted : fault_notes b.notes ≤ fault_notes a.notes + failures io
