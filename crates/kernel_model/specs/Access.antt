-- The callable list: the objects that a call needs, when it is refused, what it does, and what
-- undoes it.
use Rattle.std.specs.Prelude.{ℕ, Bool, true, false, cond, not, ◌&&◌, ◌||◌, ◌==◌, nat_lt, nat_le}
use Rattle.std.specs.Prelude.{List, [], ◌∷◌, Option, Some, None, length, slice_get, map, option_map}
use Rattle.kernel_data.specs.declared.Object.{Object}
use Rattle.kernel_data.specs.declared.Object.TheVariants.{Graft, Cell, OpenFile, Queue, Cache, Lock, Pol}
use Rattle.kernel_data.specs.declared.Mode.{Mode}
use Rattle.kernel_data.specs.declared.Mode.TheVariants.{Shared, Exclusive}
use Rattle.kernel_data.specs.declared.Need.{Need}
use Rattle.kernel_data.specs.declared.Cause.{Cause}
use Rattle.kernel_data.specs.declared.Cause.TheVariants.{NotCallable, BadArgument, NotYours, NotAllowed}
use Rattle.kernel_data.specs.declared.Inverse.{Inverse}
use Rattle.kernel_data.specs.declared.Inverse.TheVariants.{Nice, Window, Mark, Tune, Segment}
use Rattle.kernel_data.specs.declared.QueueRow.{QueueRow}
use Rattle.kernel_data.specs.declared.OpenRow.{OpenRow}
use Rattle.kernel_data.specs.Objects.{Things, FrameValue, PolValue, at, at2}
use Rattle.kernel_data.specs.Policies.{frames_of, nice_of}

-- ---- refusals and objects

-- the calls that ask another point of the same process
abbrev pub is_ask : ℕ → Bool
is_ask id = nat_le 13 id && nat_le id 15

-- the call gets or sets a policy's parameter
abbrev pub is_tuning : ℕ → Bool
is_tuning id = id == 10 || id == 11

-- an argument is out of its range, as the numbers alone show
abbrev pub is_out_of_range : (id r0 r1 : ℕ) → Bool
is_out_of_range id r0 r1 =
    nat_le id 1 && nat_lt 3 r0 || (id == 3 && nat_lt 39 r0)
    || ((id == 4 || id == 5 || id == 13) && nat_lt 3 r0)
    || (id == 5 && nat_lt 8 r1) || (id == 9 && nat_lt 255 r1) || (is_tuning id && nat_lt 2 r0)
    || (id == 12 && nat_lt 15 r0)

-- A call is refused early if its id is above the highest one, if a graft of another process than 0
-- tunes, or if an argument is out of its range, as the numbers alone show.
abbrev pub early_refusal : (highest id r0 r1 q : ℕ) → Option Cause
early_refusal highest id r0 r1 q =
    cond (nat_lt highest id) (Some (NotCallable id))
    (cond (is_tuning id && not (q == 0)) (Some (NotAllowed id))
    (cond (is_out_of_range id r0 r1) (Some (BadArgument id)) None))

-- an object that is needed in this mode
abbrev pub needed : Object → Mode → Need
needed o mode = record { object = o; mode = mode; by_user = false }

-- the object that a plain accessor needs, and in which mode; the holder of the user lock hinders
-- `take_lock` too
abbrev pub accessed : (id r0 q : ℕ) → Need
accessed id r0 q =
    cond (id == 0) (needed (Cell q r0) Shared) (cond (id == 1) (needed (Cell q r0) Exclusive)
    (cond (id == 2) (needed Queue Shared) (cond (id == 3) (needed Queue Exclusive)
    (cond (id == 4) (needed (OpenFile q r0) Shared)
    (cond (id == 5) (needed (OpenFile q r0) Exclusive)
    (cond (nat_le id 8) (needed Cache Shared) (cond (id == 9) (needed Cache Exclusive)
    (cond (id == 10) (needed (Pol r0) Shared) (cond (id == 11) (needed (Pol r0) Exclusive)
    (record { object = Lock r0; mode = Exclusive; by_user = true }))))))))))

-- the point that an ask names, of the asker's own process
abbrev pub asked_point : ℕ → ℕ → ℕ
asked_point id r0 = cond (id == 13) r0 (cond (id == 14) 4 5)

-- the objects that an ask needs before the graft of its point
abbrev pub asked_objects : (id r0 q : ℕ) → List Need
asked_objects id r0 q =
    cond (id == 13) (needed (OpenFile q r0) Shared ∷ needed (Pol 0) Shared ∷ [])
    (cond (id == 14) (needed Cache Shared ∷ needed (Pol 1) Shared ∷ [])
    (needed Queue Shared ∷ needed (Pol 2) Shared ∷ []))

-- the graft of the point that an ask names
abbrev pub asked_graft : (id r0 q : ℕ) → Need
asked_graft id r0 q = needed (Graft q (asked_point id r0)) Exclusive

-- ---- changes

-- the queue with this nice for a process
abbrev pub with_nice : ℕ → ℕ → List QueueRow → List QueueRow
with_nice q v rows = map (λ (r : QueueRow). cond (r.process == q) (record r { nice = v }) r) rows

-- an open file with this window
abbrev pub with_window : ℕ → Option OpenRow → Option OpenRow
with_window v o = option_map (λ (r : OpenRow). record r { window = v }) o

-- a frame with this mark
abbrev pub with_mark : ℕ → Option FrameValue → Option FrameValue
with_mark v o = option_map (λ (r : FrameValue). record r { mark = v }) o

-- the policies of a kind, with this parameter for the chosen one
abbrev pub with_param : ℕ → PolValue → PolValue
with_param v p = record p { param = at p.chosen v p.param }

-- a cell gets a value
abbrev pub set_cell : ℕ → ℕ → ℕ → Things → Things
set_cell q k v w = record w { cell = at2 q k v w.cell }

-- a process gets a nice
abbrev pub set_nice : ℕ → ℕ → Things → Things
set_nice q v w = record w { queue = with_nice q v w.queue }

-- an open file gets a window
abbrev pub set_window : ℕ → ℕ → ℕ → Things → Things
set_window q fd v w = record w { file = at2 q fd (with_window v (w.file q fd)) w.file }

-- a frame gets a mark
abbrev pub set_mark : ℕ → ℕ → Things → Things
set_mark f v w =
    record w {
      cache = record (w.cache)
          { frame = at f (with_mark v (w.cache.frame f)) w.cache.frame };
    }

-- the parameter of the chosen policy gets a value
abbrev pub set_param : ℕ → ℕ → Things → Things
set_param kind v w = record w { pol = at kind (with_param v (w.pol kind)) w.pol }

-- these bytes, or none, are kept for the graft at (q, pt)
abbrev pub set_segment : (q pt : ℕ) → Option (ℕ → ℕ) → Things → Things
set_segment q pt bytes w = record w { segment = at2 q pt bytes w.segment }

-- the highest value of a policy's parameter, if it has one: 8 for reading ahead, 255 for eviction,
-- 39 for scheduling; policy 0 of each kind has none
abbrev pub param_top : (kind policy : ℕ) → Option ℕ
param_top kind j =
    cond (j == 0) None (cond (kind == 0) (Some 8) (cond (kind == 1) (Some 255) (Some 39)))

-- it is parameter 0, and the value is in its range
abbrev pub in_range : Option ℕ → ℕ → ℕ → Bool
in_range None k v = false
in_range (Some top) k v = k == 0 && nat_le v top

-- the parameter of the chosen policy
abbrev pub chosen_param : PolValue → ℕ
chosen_param p = p.param p.chosen

-- ---- what accessors do

-- one case for each plain accessor
pub data Callable : Type 0 where
  CellGet CellSet NiceGet NiceSet WindowGet WindowSet FramesMine : Callable
  FrameAt FrameBlock FrameMark TuneGet TuneSet TakeLock : Callable

-- the accessor that has this id
abbrev pub callable : ℕ → Callable
callable id =
    cond (id == 0) CellGet (cond (id == 1) CellSet (cond (id == 2) NiceGet (cond (id == 3) NiceSet
    (cond (id == 4) WindowGet
    (cond (id == 5) WindowSet (cond (id == 6) FramesMine (cond (id == 7) FrameAt
    (cond (id == 8) FrameBlock
    (cond (id == 9) FrameMark
    (cond (id == 10) TuneGet (cond (id == 11) TuneSet TakeLock)))))))))))

-- what an accessor returns: a result; a result, a change and what undoes it; or a refusal because
-- of the values
pub data Access : Type 0 where
  Gives : (result : ℕ) → Access
  Changes : (result : ℕ) → Inverse → Things → Access
  Refuses : Cause → Access

-- a frame of the process itself: another's is refused, and one that isn't in use is a bad argument
abbrev pub own_frame : (id q : ℕ) → Option FrameValue → (FrameValue → Access) → Access
own_frame id q None then = Refuses (BadArgument id)
own_frame id q (Some f) then = cond (f.owner == q) (then f) (Refuses (NotYours id))

-- the window of an open file changes
abbrev pub window_change : (id fd v q : ℕ) → Option OpenRow → Things → Access
window_change id fd v q None w = Refuses (BadArgument id)
window_change id fd v q (Some o) w = Changes o.window (Window q fd o.window) (set_window q fd v w)

-- the parameter of the chosen policy changes
abbrev pub tune_change : (kind k v old : ℕ) → Things → Access
tune_change kind k v old w = Changes old (Tune kind k old) (set_param kind v w)

-- what each accessor does; one that makes a change gives the value from before, even if it stays
-- the same
abbrev pub access_by : Callable → (id r0 r1 r2 q : ℕ) → Things → Access
access_by CellGet id r0 r1 r2 q w = Gives (w.cell q r0)
access_by CellSet id r0 r1 r2 q w =
    Changes (w.cell q r0) (Inverse.Cell q r0 (w.cell q r0)) (set_cell q r0 r1 w)
access_by NiceGet id r0 r1 r2 q w = Gives (nice_of w.queue q)
access_by NiceSet id r0 r1 r2 q w =
    Changes (nice_of w.queue q) (Nice q (nice_of w.queue q)) (set_nice q r0 w)
access_by WindowGet id r0 r1 r2 q w =
    elim (w.file q r0) [ None ↦ Refuses (BadArgument id) | Some o ↦ Gives o.window ]
access_by WindowSet id r0 r1 r2 q w = window_change id r0 r1 q (w.file q r0) w
access_by FramesMine id r0 r1 r2 q w = Gives (length (frames_of w.cache q))
access_by FrameAt id r0 r1 r2 q w =
    elim (slice_get (frames_of w.cache q) r0) [ None ↦ Refuses (BadArgument id) | Some f ↦ Gives f ]
access_by FrameBlock id r0 r1 r2 q w = own_frame id q (w.cache.frame r0) (λ f. Gives f.block)
access_by FrameMark id r0 r1 r2 q w =
    own_frame id q (w.cache.frame r0) (λ f. Changes f.mark (Mark r0 f.mark) (set_mark r0 r1 w))
access_by TuneGet id r0 r1 r2 q w =
    cond (in_range (param_top r0 (w.pol r0).chosen) r1 0) (Gives (chosen_param (w.pol r0)))
    (Refuses (BadArgument id))
access_by TuneSet id r0 r1 r2 q w =
    cond (in_range (param_top r0 (w.pol r0).chosen) r1 r2)
    (tune_change r0 r1 r2 (chosen_param (w.pol r0)) w)
    (Refuses (BadArgument id))
access_by TakeLock id r0 r1 r2 q w = Gives r0

-- A plain accessor of process q gives a result; or it gives the value from before, changes its
-- object and says what undoes that; or it is refused because of the values.
abbrev pub access : (id r0 r1 r2 q : ℕ) → Things → Access
access id r0 r1 r2 q w = access_by (callable id) id r0 r1 r2 q w

-- ---- undoing

-- what a change found: its inverse and, for a kept segment, the bytes that were kept before, if any
pub record Found : Type 0 where
  pub inverse : Inverse
  pub bytes : Option (ℕ → ℕ)

-- what the change of an accessor found
abbrev pub bare_found : Inverse → Found
bare_found i = record { inverse = i; bytes = None }

-- what keeping the segment of the graft at (q, pt) found
abbrev pub found_segment : (q pt : ℕ) → Things → Found
found_segment q pt w = record { inverse = Segment q pt; bytes = w.segment q pt }

-- puts back the value that an inverse names and, for a kept segment, these bytes
abbrev pub undo_by : Inverse → (bytes : Option (ℕ → ℕ)) → Things → Things
undo_by (Inverse.Cell q k v) bytes w = set_cell q k v w
undo_by (Nice q v) bytes w = set_nice q v w
undo_by (Window q fd v) bytes w = set_window q fd v w
undo_by (Mark f v) bytes w = set_mark f v w
undo_by (Tune kind k v) bytes w = set_param kind v w
undo_by (Segment q pt) bytes w = set_segment q pt bytes w

-- undoing a record puts back what its change found
abbrev pub undo : Found → Things → Things
undo f w = undo_by f.inverse f.bytes w

-- the object that an inverse puts back
abbrev pub object_of_inverse : Inverse → Object
object_of_inverse (Inverse.Cell q k v) = Object.Cell q k
object_of_inverse (Nice q v) = Queue
object_of_inverse (Window q fd v) = OpenFile q fd
object_of_inverse (Mark f v) = Cache
object_of_inverse (Tune kind k v) = Pol kind
object_of_inverse (Segment q pt) = Graft q pt

-- the object that the change of a record applies to
abbrev pub changed_by : Found → Object
changed_by f = object_of_inverse f.inverse
