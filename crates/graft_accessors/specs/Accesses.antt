-- What the accessors of grafts do to a store, and which of their changes can be undone on it.
use Rattle.std.specs.Prelude.{◌≡◌, ℕ, ◌<◌, ◌≤◌, true, List, Some, None, Result, Ok, Err, IfOk}
use Rattle.std.specs.Prelude.{IfSome, is_some, slice_index}
use Rattle.kernel_model.specs.declared.Inverse.{Inverse}
use Rattle.kernel_model.specs.declared.Inverse.TheVariants.{Cell, Nice, Window, Mark, Tune, Segment}
use Rattle.kernel_model.specs.declared.Cause.{Cause}
use Rattle.kernel_model.specs.declared.QueueRow.{QueueRow}
use Rattle.kernel_model.specs.Access.{Access, access, Gives, Changes, Refuses}
use Rattle.kernel_model.specs.Access.{early_refusal, in_range, param_top}
use Rattle.kernel_model.specs.Objects.{Things}
use Rattle.kernel_model.specs.Policies.{lives}
use Rattle.kernel_state.specs.Views.{PolicyView}
use Rattle.kernel_state.specs.Shelf.{code_of, shelf_with}
use Rattle.graft_accessors.specs.declared.AccessResult.{AccessResult}

-- what the accessor of an id does with its three arguments, for a graft of process q
abbrev pub accessed_with : (id : ℕ) (args : List ℕ) (q : ℕ) → Things → Access
accessed_with id args q w =
    access id (slice_index args 0) (slice_index args 1) (slice_index args 2) q w

-- the answer of an accessor: the result and what undoes the change, or the refusal
abbrev pub answer_of : Access → Result AccessResult Cause
answer_of (Gives result) = Ok (record { result = result; inverse = None })
answer_of (Changes result inverse w) = Ok (record { result = result; inverse = Some inverse })
answer_of (Refuses cause) = Err cause

-- the objects after an accessor: changed, or the same
abbrev pub things_after : Access → Things → Things
things_after (Gives result) w = w
things_after (Changes result inverse u) w = u
things_after (Refuses cause) w = w

-- a record can be undone: the process lives, the cell, open file, frame, parameter or point is
-- there, and the value is in its range
abbrev pub CanBeUndone : Inverse → Things → Type 0
CanBeUndone (Cell q k v) w = (lives w.queue q ≡ true) × (k < 4)
CanBeUndone (Nice q v) w = (lives w.queue q ≡ true) × (v ≤ 39)
CanBeUndone (Window q fd v) w = (lives w.queue q ≡ true) × (fd < 4) × (is_some (w.file q fd) ≡ true)
    × (v ≤ 8)
CanBeUndone (Mark f v) w = is_some (w.cache.frame f) ≡ true
CanBeUndone (Tune kind k v) w = (kind < 3)
    × (in_range (param_top kind (w.pol kind).chosen) k v ≡ true)
CanBeUndone (Segment q pt) w = (q < 16) × (pt < 16)

-- id is that of a plain accessor, which the arguments alone don't refuse, for a graft of process q,
-- which lives
pub record IsPlainAccess (queue : List QueueRow) (id : ℕ) (args : List ℕ) (q : ℕ) : Type 0 where
  pub lives : lives queue q ≡ true
  pub plain : id ≤ 12
  pub early : early_refusal 15 id (slice_index args 0) (slice_index args 1) q ≡ None

-- this is the answer of an accessor, and its record can be undone on these things
pub record IsAccessAnswer (accessed : Access) (w : Things) (result : Result AccessResult Cause) : Type 0 where
  pub answer : result ≡ answer_of accessed
  pub undoable : IfOk result (λ a. IfSome a.inverse (λ i. CanBeUndone i w))

-- a record that could be undone on the first things can be on the others
abbrev pub StayUndoable : (old new : Things) → Type 0
StayUndoable old new = (i : Inverse) → CanBeUndone i old → CanBeUndone i new

-- the policies once a record was undone: a parameter is put back in the policy that is chosen of
-- its kind, and no other policy changes
abbrev pub views_after : Inverse → (choice : List ℕ) → List PolicyView → List PolicyView
views_after (Cell q k v) choice views = views
views_after (Nice q v) choice views = views
views_after (Window q fd v) choice views = views
views_after (Mark f v) choice views = views
views_after (Tune kind k v) choice views =
    shelf_with (code_of kind (slice_index choice kind)) v views
views_after (Segment q pt) choice views = views
