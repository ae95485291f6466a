-- What follows from the histories: the levels of each call, what they hold, what each call's next
-- step needs, and who blocks it.
use Rattle.std.specs.Prelude.{ℕ, Bool, true, false, cond, ◌&&◌, ◌==◌, List, [], Option, Some, None}
use Rattle.std.specs.Prelude.{map, option_map, slice_index_or}
use Rattle.kernel_data.specs.declared.Need.{Need}
use Rattle.kernel_data.specs.Objects.{same_object}
use Rattle.kernel_data.specs.World.{processes}
use Rattle.kernel_model.specs.Meaning.{Meaning}
use Rattle.kernel_model.specs.Locks.{LockTable, Hindrance, first_hindrance}
use Rattle.kernel_model.specs.Levels.{Level, Config, touched_at}
use Rattle.kernel_model.specs.GraftStep.{next_needs, lock_user}
use Rattle.kernel_model.specs.History.{Trace, replay}
use Rattle.kernel_model.specs.Kernel.{Call, Blocker, Kernel}

-- the config of a trace
abbrev pub config_in : Option Trace → Option Config
config_in t = option_map (λ (u : Trace). u.config) t

-- the levels of a config, or none if there is no config
abbrev pub levels_in : Option Config → List Level
levels_in None = []
levels_in (Some c) = c.levels

-- the table of what calls hold, by the levels of each process
abbrev pub locks_from : List (List Level) → LockTable
locks_from table p d = touched_at (slice_index_or table p []) d

-- the number of a call
abbrev pub number_of_call : Option Call → Option ℕ
number_of_call c = option_map (λ (x : Call). x.number) c

-- a blocker: what hinders, and the number of the holder's call unless it is a user lock
abbrev pub blocker_from : Kernel → Hindrance → Blocker
blocker_from k h =
    record {
      object = h.object;
      holder = h.holder;
      call = cond h.by_user None (number_of_call (k.call h.holder));
    }

-- two call numbers are the same, or both are missing
abbrev pub same_call : Option ℕ → Option ℕ → Bool
same_call None None = true
same_call (Some x) (Some y) = x == y
same_call _ _ = false

-- two blockers are the same, or both are missing; the mode isn't compared
abbrev pub same_blocker : Option Blocker → Option Blocker → Bool
same_blocker None None = true
same_blocker (Some a) (Some b) = same_object a.object b.object && a.holder == b.holder
    && same_call a.call b.call
same_blocker _ _ = false

module _ (m : Meaning) where
  -- where the history of a process's call leads; nothing if it has none
  abbrev pub trace_of : Kernel → ℕ → Option Call → Option Trace
  trace_of k p None = None
  trace_of k p (Some c) =
      elim c.marks [ None ↦ None | Some ks ↦ replay m k.world k.images k.objects p c.stage ks ]

  -- the config of a process's call
  abbrev pub config_of : Kernel → ℕ → Option Config
  config_of k p = config_in (trace_of k p (k.call p))

  -- the levels of a process's call, innermost first
  abbrev pub levels_of : Kernel → ℕ → List Level
  levels_of k p = levels_in (config_of k p)

  -- what each level of each process's call holds, as the replay of its history shows
  abbrev pub holds : Kernel → LockTable
  holds k = locks_from (map (levels_of k) processes)

  -- what the next instruction of a call at this config needs
  abbrev pub needs_at : Kernel → Option Config → List Need
  needs_at k None = []
  needs_at k (Some c) = next_needs k.world k.images c.now.accounts c.levels

  -- what the next step of a call needs: the objects of its piece, or those of its next instruction
  abbrev pub needs_in : Kernel → ℕ → Option Call → List Need
  needs_in k p None = []
  needs_in k p (Some c) =
      elim c.marks [
        | None ↦ m.need k.world k.objects p c.stage
        | Some ks ↦ needs_at k (config_of k p)
      ]

  -- A call's next step needs the objects of its piece or, if it has a level, those of its next
  -- instruction.
  abbrev pub needs : Kernel → ℕ → List Need
  needs k p = needs_in k p (k.call p)

  -- who blocks the next step of a process's call, given the table of what calls hold
  abbrev pub blocker_in : Kernel → LockTable → ℕ → Option Blocker
  blocker_in k locks p =
      option_map (blocker_from k)
      (first_hindrance locks k.objects.things.lock p (lock_user p (levels_of k p)) (needs k p))

  -- A call's blocker is the first hindrance of its next step: the object, the process, and the
  -- holder's call number, or none for a user lock.
  abbrev pub blocker : Kernel → ℕ → Option Blocker
  blocker k p = blocker_in k (holds k) p
