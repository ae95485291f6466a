-- The one store of a kernel that works in place: the committed state, with what each call holds
-- exclusively as that call sees it. Below a cut, a call's objects are as the cut level found them.
use Rattle.std.specs.Prelude.{ℕ, Bool, List, [], ◌∷◌, Option, Some, None}
use Rattle.std.specs.List.{list_any}
use Rattle.kernel_data.specs.declared.Object.{Object}
use Rattle.kernel_data.specs.World.{processes}
use Rattle.kernel_data.specs.Objects.{Objects, Things, mix}
use Rattle.kernel_model.specs.Locks.{is_held_exclusively}
use Rattle.kernel_model.specs.Meaning.{Meaning}
use Rattle.kernel_model.specs.Levels.{Level, Config, level_at}
use Rattle.kernel_model.specs.UndoLog.{undo_log, undo_on, records_from}
use Rattle.kernel_model.specs.Kernel.{Kernel}
use Rattle.kernel_model.specs.Blocking.{config_of, levels_of}

-- a cut: for some of the calls in flight a level; what this level and those further inward did is
-- left out
abbrev pub Cut : Type 0
Cut = (process : ℕ) → Option ℕ

-- no call is cut
abbrev pub no_cut : Cut
no_cut p = None

-- an object is held exclusively by some level
abbrev pub is_changed_in : List Level → Object → Bool
is_changed_in ls o = list_any (λ (l : Level). is_held_exclusively (l.touched o)) ls

-- what a level found when it began, if there is a level
abbrev pub kept_of : Option Level → Things → Things
kept_of None w = w
kept_of (Some l) w = l.kept

-- a call's working state below a cut: the things as the cut level found them, but accounts and
-- grafts as they are now
abbrev pub cut_state : Option ℕ → Config → Objects
cut_state None c = c.now
cut_state (Some d) c = record (c.now) { things = kept_of (level_at d c.levels) c.now.things }

-- a state, with each object that a call holds exclusively as the call's working state below a cut
-- has it
abbrev pub over : Option Config → Option ℕ → Objects → Objects
over None d s = s
over (Some c) d s = mix (is_changed_in c.levels) (cut_state d c) s

-- a state after the records of a call, from the cut level inward, are undone, newest first
abbrev pub undo_cut : Option ℕ → List Level → Objects → Objects
undo_cut None ls s = s
undo_cut (Some d) ls s = undo_on (records_from d (undo_log ls)) s

module _ (m : Meaning) where
  -- the committed state, with what the calls of these processes have done below a cut
  abbrev pub store_with : Kernel → Cut → List ℕ → Objects
  store_with k cut [] = k.objects
  store_with k cut (p ∷ ps) = over (config_of m k p) (cut p) (store_with k cut ps)

  -- The store below a cut is the store in place, except that a cut call has its things as the cut
  -- level found them.
  abbrev pub store_below : Kernel → Cut → Objects
  store_below k cut = store_with k cut processes

  -- The store in place is the committed state, with each object that a call holds exclusively as
  -- that call's replay has it.
  abbrev pub in_place : Kernel → Objects
  in_place k = store_below k no_cut

  -- Undoing above a cut changes the store in place: for each of these calls, the last one first, it
  -- undoes the records from the cut level inward, newest first.
  abbrev pub undone : Kernel → Cut → List ℕ → Objects
  undone k cut [] = in_place k
  undone k cut (p ∷ ps) = undo_cut (cut p) (levels_of m k p) (undone k cut ps)
