-- What a change of an event under way did, beside what the definitions say.
use Rattle.std.specs.Prelude.{◌≡◌, ℕ, ◌+◌, ◌≤◌, Bool, List, ◌++◌, Option, take, length}
use Rattle.call_pieces.specs.Calls.{Knows, Made, failures}
use Rattle.kernel_model.specs.declared.Note.{Note}
use Rattle.kernel_model.specs.World.{World, ImageTable, Blocks}
use Rattle.kernel_model.specs.Objects.{Objects}
use Rattle.kernel_model.specs.Sound.{HasWholeBlocks}
use Rattle.kernel_model.specs.Meaning.{Meaning, Answer, Piece}
use Rattle.kernel_model.specs.Kernel.{gave_note, after_note}
use Rattle.call_pieces.specs.declared.Store.{Store}
use Rattle.call_pieces.specs.Stores.{world_of_store, SegmentsStay}
use Rattle.placed_laws.specs.Placed.{Placed, PlacedCall, PlacedRun}
use Rattle.placed_laws.specs.PlacedSteps.{placed_after}
use Rattle.kernel_steps.specs.Faults.{fault_notes}
use Rattle.kernel_steps.specs.Moments.{KernelMoment}
use Rattle.running_kernel.specs.Views.{run_of}

-- the notes that are kept of those of an event: no event of a sound kernel has more
unfoldable pub first_notes : List Note → List Note
first_notes notes = take 530 notes

-- These notes were added to those that are kept: of all notes the first are kept, and none tells of
-- a failed disk that didn't before, or is one of these.
pub record Adds (more kept kept_new : List Note) : Type 0 where
  pub first : (notes : List Note) → kept ≡ first_notes notes →
      kept_new ≡ first_notes (notes ++ more)
  pub faults : fault_notes kept_new ≤ fault_notes kept + fault_notes more

-- ---- a change of an event under way

-- a change that makes no call of the disk took one kernel in place to another and added these
-- notes, and the notes that are kept to those
abbrev pub SimulatesNoting : (PlacedRun → PlacedRun) → Placed → Placed →
    (more kept kept_new : List Note) → Type 0
SimulatesNoting f x y more kept kept_new =
    ((notes : List Note) (blocks : Blocks) (io : List Bool) →
    f (run_of x blocks notes io) ≡ run_of y blocks (notes ++ more) io)
    × Adds more kept kept_new

-- an event under way has come to this kernel in place, of its notes these are kept, the disk tells
-- its blocks, and its next calls will do this
pub record RunMatches (r : PlacedRun) (y : Placed) (kept : List Note)
    (known : Option (List (List ℕ))) (rest : List Bool) : Type 0 where
  pub placed : r.placed ≡ y
  pub notes : kept ≡ first_notes r.notes
  pub blocks : Knows known r.blocks
  pub io : r.io ≡ rest

-- A change of an event under way took one moment to another: the kernel in place, the notes that
-- are kept, and the disk. Where the disk tells its blocks, all is as the definitions have it.
pub record Refines (f : PlacedRun → PlacedRun) (a b : KernelMoment Placed) : Type 0 where
  -- which of its calls of the disk failed
  pub io : List Bool
  pub made : Made a.disk b.disk io
  pub goes : (blocks : Blocks) (notes : List Note) (rest : List Bool) →
      Knows a.disk.known blocks → a.notes ≡ first_notes notes →
      RunMatches (f (run_of a.kernel blocks notes (io ++ rest))) b.kernel b.notes b.disk.known rest
  -- whatever the disk tells: each note of a refusal because it failed has a failed call of its own
  pub faulted : fault_notes b.notes ≤ fault_notes a.notes + failures io

-- Whether the disk tells its blocks or not: over some whole ones the change takes the one kernel in
-- place to the other.
pub record Reaches (f : PlacedRun → PlacedRun) (x y : Placed) : Type 0 where
  pub blocks : Blocks
  pub whole : HasWholeBlocks x.world blocks
  pub io : List Bool
  pub goes : (notes : List Note) → (f (run_of x blocks notes io)).placed ≡ y

-- ---- a piece

-- what is left of a piece of a call: the objects, the call, the notes that are kept of it, what the
-- disk tells, and how many calls of the disk were made
pub record PieceLeft (c : PlacedCall) (q : Piece) (u : Objects) (call : Option PlacedCall)
    (notes kept : List Note) (known : Option (List (List ℕ))) (calls : ℕ) : Type 0 where
  pub objects : u ≡ q.objects
  pub call_is : call ≡ placed_after c q.after
  pub kept_are : kept ≡ first_notes (notes ++ gave_note c.number q.gave
      ++ after_note c.number q.after)
  pub blocks : Knows known q.blocks
  pub all_made : calls ≡ q.calls

-- the same for some whole blocks, for a disk that doesn't tell its own
pub record PieceMayLeave (v : World) (piece : Blocks → List Bool → Piece) (c : PlacedCall)
    (u : Objects) (call : Option PlacedCall) : Type 0 where
  pub blocks : Blocks
  pub whole : HasWholeBlocks v blocks
  pub io : List Bool
  pub objects : u ≡ (piece blocks io).objects
  pub call_is : call ≡ placed_after c (piece blocks io).after

-- A piece of the call c of process p, with an answer or by default, was done: it took one moment to
-- another, of which the objects are looked at, and left this call, if it goes on.
pub record PieceDone (m : Meaning) (v : World) (p : ℕ) (c : PlacedCall)
    (call : Option PlacedCall) (answer : Option Answer) (a b : KernelMoment Objects) : Type 0 where
  pub io : List Bool
  pub made : Made a.disk b.disk io
  pub goes : (images : ImageTable) (blocks : Blocks) (notes : List Note) (rest : List Bool) →
      Knows a.disk.known blocks → a.notes ≡ first_notes notes →
      PieceLeft c (m.piece v images a.kernel blocks p c.stage answer (io ++ rest)) b.kernel call
      notes b.notes b.disk.known (length io)
  pub faulted : fault_notes b.notes ≤ fault_notes a.notes + failures io
  pub some : (images : ImageTable) → PieceMayLeave v
      (λ blocks io. m.piece v images a.kernel blocks p c.stage answer io) c b.kernel call

-- a piece leaves a store's set-up, and the segments of all levels
pub record StoreStays {B : Type 0} {P : _} (s t : Store B P) : Type 0 where
  pub world : world_of_store t ≡ world_of_store s
  pub memory : SegmentsStay s.ram t.ram
