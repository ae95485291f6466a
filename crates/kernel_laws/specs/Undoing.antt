-- What undoing the changes of accessors gives.
use Rattle.std.specs.Prelude.{◌≡◌, ◌≢◌, ℕ, ◌≤◌, List, [], ◌∷◌, ⊤}
use Rattle.kernel_model.specs.declared.Object.{Object}
use Rattle.kernel_model.specs.declared.Mode.TheVariants.{Exclusive}
use Rattle.kernel_model.specs.declared.QueueRow.{QueueRow}
use Rattle.kernel_model.specs.Objects.{Things, SameThing}
use Rattle.kernel_model.specs.Access.{Access, Gives, Changes, Refuses, access, accessed, needed}
use Rattle.kernel_model.specs.Access.{Found, bare_found, undo, object_of_inverse, changed_by}
use Rattle.kernel_model.specs.UndoLog.{undo_all}
use Rattle.kernel_model.specs.Sound.{count_of, in_queue}

-- a process stands in the queue at most once
abbrev pub IsOnceIn : ℕ → List QueueRow → Type 0
IsOnceIn q queue = count_of q (in_queue queue) ≤ 1

-- inverses of distinct objects commute
abbrev pub InversesCommute : Type 0
InversesCommute = (i j : Found) (w : Things) → changed_by i ≢ changed_by j →
    undo i (undo j w) ≡ undo j (undo i w)

-- where an accessor made a change, its inverse leads back to the things before it
abbrev pub LeadsBack : Things → Access → Type 0
LeadsBack w (Gives result) = ⊤
LeadsBack w (Changes result i u) = undo (bare_found i) u ≡ w
LeadsBack w (Refuses cause) = ⊤

-- an inverse undoes the change of the accessor that recorded it, where the process stands in the
-- queue at most once
abbrev pub InversesUndo : Type 0
InversesUndo = (id r0 r1 r2 q : ℕ) (w : Things) → IsOnceIn q w.queue →
    LeadsBack w (access id r0 r1 r2 q w)

-- a call of a plain accessor by a process
pub record AccessorCall : Type 0 where
  pub id : ℕ
  pub r0 : ℕ
  pub r1 : ℕ
  pub r2 : ℕ
  pub process : ℕ

-- the things after what an accessor came to, and the records so far, the newest first
abbrev pub recorded : Access → Things × List Found → Things × List Found
recorded (Gives result) e = e
recorded (Changes result i u) e = (u, bare_found i ∷ e.1)
recorded (Refuses cause) e = e

-- accessors one after another
abbrev pub after_calls : List AccessorCall → Things × List Found → Things × List Found
after_calls [] e = e
after_calls (c ∷ cs) e = after_calls cs (recorded (access c.id c.r0 c.r1 c.r2 c.process e.0) e)

-- the records of accessors, newest first, lead back to the things before the first
abbrev pub RecordsLeadBack : Type 0
RecordsLeadBack =
    (cs : List AccessorCall) (w : Things) → ((q : ℕ) → IsOnceIn q w.queue) →
    let e = after_calls cs (w, []) in undo_all e.1 e.0 ≡ w

-- an inverse changes its object alone
abbrev pub InversesChangeOneObject : Type 0
InversesChangeOneObject = (i : Found) (o : Object) (w : Things) → o ≢ changed_by i →
    SameThing o (undo i w) w

-- where an accessor of process q made a change, it needs the object of the inverse exclusively, and
-- changed no other
abbrev pub ChangesItsObject : (id r0 q : ℕ) → Things → Access → Type 0
ChangesItsObject id r0 q w (Gives result) = ⊤
ChangesItsObject id r0 q w (Changes result i u) =
    (accessed id r0 q ≡ needed (object_of_inverse i) Exclusive)
    × ((o : Object) → o ≢ object_of_inverse i → SameThing o u w)
ChangesItsObject id r0 q w (Refuses cause) = ⊤

-- an accessor's change is of one object alone: of that which it needs, and exclusively
abbrev pub ChangesAreOfOneObject : Type 0
ChangesAreOfOneObject = (id r0 r1 r2 q : ℕ) (w : Things) →
    ChangesItsObject id r0 q w (access id r0 r1 r2 q w)
