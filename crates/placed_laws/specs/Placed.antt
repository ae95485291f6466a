-- The kernel in place: one store that is changed in place, and of each call in flight its levels,
-- without a history and without a committed copy.
use Rattle.std.specs.Prelude.{ℕ, Bool, true, false, cond, List, [], ◌∷◌, Option, Some, None, map, option_map}
use Rattle.kernel_model.specs.Access.{Found}
use Rattle.kernel_model.specs.declared.Need.{Need}
use Rattle.kernel_model.specs.declared.Note.{Note}
use Rattle.kernel_model.specs.World.{World, ImageTable, Blocks, processes}
use Rattle.kernel_model.specs.Objects.{Objects, Things}
use Rattle.kernel_model.specs.Machine.{Machine}
use Rattle.kernel_model.specs.Meaning.{Meaning, Stage}
use Rattle.kernel_model.specs.Locks.{Touched, LockTable, Hindrance, first_hindrance}
use Rattle.kernel_model.specs.Levels.{Level, Config}
use Rattle.kernel_model.specs.GraftStep.{next_needs, lock_user}
use Rattle.kernel_model.specs.UndoLog.{undo_all}
use Rattle.kernel_model.specs.Kernel.{Blocker, Waiter}
use Rattle.kernel_model.specs.Blocking.{locks_from}

-- ---- the state

-- a level in place: what it found when it began isn't kept, since its records tell
pub record PlacedLevel : Type 0 where
  -- the installer and the point of its graft
  pub owner : ℕ
  pub point : ℕ
  pub machine : Machine
  -- how many instructions it has taken
  pub count : ℕ
  -- how it holds each object
  pub touched : Touched
  -- the arguments that it was given
  pub args : List ℕ
  -- what its changing accessors found, newest first
  pub records : List Found

-- a call in flight
pub record PlacedCall : Type 0 where
  -- the number of the event that began it
  pub number : ℕ
  pub stage : Stage

-- a kernel in place
pub record Placed : Type 0 where
  pub world : World
  pub images : ImageTable
  -- the store, with what all calls in flight have done
  pub objects : Objects
  pub clock : ℕ
  -- the call of each process that has one in flight
  pub call : ℕ → Option PlacedCall
  -- the levels of each process's call, innermost first; it is in a graft exactly where there are
  -- some
  pub levels : ℕ → List PlacedLevel
  -- the order of waiting
  pub order : List Waiter

-- an event under way: the kernel in place, the disk's blocks, the notes so far, and what the disk's
-- next calls will do
pub record PlacedRun : Type 0 where
  pub placed : Placed
  pub blocks : Blocks
  pub notes : List Note
  pub io : List Bool

-- ---- levels

-- there is some level
abbrev pub has_some : List PlacedLevel → Bool
has_some [] = false
has_some (l ∷ ls) = true

-- a level that found these things
abbrev pub level_with : Things → PlacedLevel → Level
level_with w l =
    record {
      owner = l.owner;
      point = l.point;
      machine = l.machine;
      count = l.count;
      touched = l.touched;
      args = l.args;
      records = l.records;
      kept = w;
    }

-- levels over a store: each found what undoing its records gives, on the way outwards
abbrev pub levels_with : Things → List PlacedLevel → List Level
levels_with w [] = []
levels_with w (l ∷ ls) = let kept = undo_all l.records w in level_with kept l ∷ levels_with kept ls

-- a level without what it found
abbrev pub bare : Level → PlacedLevel
bare l =
    record {
      owner = l.owner;
      point = l.point;
      machine = l.machine;
      count = l.count;
      touched = l.touched;
      args = l.args;
      records = l.records;
    }

-- the levels of a process's call over the store
abbrev pub placed_levels : Placed → ℕ → List Level
placed_levels x p = levels_with x.objects.things (x.levels p)

-- a process's graft call: the store, and its levels over it
abbrev pub placed_config : Placed → ℕ → Config
placed_config x p = record { now = x.objects; levels = placed_levels x p }

-- ---- who blocks whom

-- how each level of each process's call holds each object
abbrev pub placed_holds : Placed → LockTable
placed_holds x = locks_from (map (placed_levels x) processes)

-- a blocker: what hinders, with the number of the holder's call unless it is a user lock
abbrev pub placed_blocker_from : Placed → Hindrance → Blocker
placed_blocker_from x h =
    record {
      object = h.object;
      holder = h.holder;
      call = cond h.by_user None (option_map (λ (c : PlacedCall). c.number) (x.call h.holder));
    }

module _ (m : Meaning) where
  -- what the next step needs of a call with these levels: the objects of its piece, or those of its
  -- next instruction
  abbrev pub placed_needs_at : Placed → ℕ → PlacedCall → List PlacedLevel → List Need
  placed_needs_at x p c [] = m.need x.world x.objects p c.stage
  placed_needs_at x p c (l ∷ ls) =
      next_needs x.world x.images x.objects.accounts (placed_levels x p)

  -- the same of a call, if there is one
  abbrev pub placed_needs_in : Placed → ℕ → Option PlacedCall → List Need
  placed_needs_in x p None = []
  placed_needs_in x p (Some c) = placed_needs_at x p c (x.levels p)

  -- what the next step of a process's call needs
  abbrev pub placed_needs : Placed → ℕ → List Need
  placed_needs x p = placed_needs_in x p (x.call p)

  -- who blocks the next step of a process's call, where the table tells what calls hold
  abbrev pub placed_blocker_in : Placed → LockTable → ℕ → Option Blocker
  placed_blocker_in x locks p =
      option_map (placed_blocker_from x)
      (first_hindrance locks x.objects.things.lock p (lock_user p (placed_levels x p))
      (placed_needs x p))

  -- who blocks the next step of a process's call
  abbrev pub placed_blocker : Placed → ℕ → Option Blocker
  placed_blocker x p = placed_blocker_in x (placed_holds x) p
