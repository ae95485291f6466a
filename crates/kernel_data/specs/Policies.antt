-- The stock policies, the candidate and the default answer of each point, the arguments that a
-- point is asked with, and which answers are valid.
use Rattle.std.specs.Prelude.{ℕ, ◌+◌, ◌-◌, min, max, Bool, false, cond, ◌&&◌, ◌==◌, nat_lt, nat_le}
use Rattle.std.specs.Prelude.{List, [], ◌∷◌, Option, Some, None, filter, length, slice_index}
use Rattle.std.specs.List.{list_any}
use Rattle.kernel_data.specs.declared.QueueRow.{QueueRow}
use Rattle.kernel_data.specs.declared.OpenRow.{OpenRow}
use Rattle.kernel_data.specs.World.{World, blocks_of}
use Rattle.kernel_data.specs.Objects.{Things, PolValue, CacheValue}

-- the first element with the least key
abbrev pub least : {A : Type 0} → (A → ℕ) → List A → Option A
least key [] = None
least key (x ∷ xs) =
    elim (least key xs) [ None ↦ Some x | Some y ↦ cond (nat_lt (key y) (key x)) (Some y) (Some x) ]

-- a number, or 0 if there is none
abbrev pub or_zero : Option ℕ → ℕ
or_zero None = 0
or_zero (Some x) = x

-- ---- processes

-- a process lives: it is in the queue
abbrev pub lives : List QueueRow → ℕ → Bool
lives queue p = list_any (λ (r : QueueRow). r.process == p) queue

-- the nice in the first of these rows
abbrev pub first_nice : List QueueRow → ℕ
first_nice [] = 0
first_nice (r ∷ rs) = r.nice

-- the nice of a process
abbrev pub nice_of : List QueueRow → ℕ → ℕ
nice_of queue p = first_nice (filter (λ (r : QueueRow). r.process == p) queue)

-- the key that the scheduling policy compares: 0 by policy 0, and otherwise the nice or the floor,
-- whichever is more
abbrev pub turn_key : PolValue → QueueRow → ℕ
turn_key pol r = cond (pol.chosen == 0) 0 (max r.nice (pol.param 1))

-- the process of a row
abbrev pub process_in : Option QueueRow → Option ℕ
process_in None = None
process_in (Some r) = Some r.process

-- The candidate for the processor is the front of the queue by policy 0. By policy 1 it is the
-- first process with the least key, which is its nice or the floor, whichever is more.
abbrev pub next_process : PolValue → List QueueRow → Option ℕ
next_process pol queue = process_in (least (turn_key pol) queue)

-- ---- frames

-- the owner of a frame
abbrev pub frame_owner : CacheValue → ℕ → Option ℕ
frame_owner c f = elim (c.frame f) [ None ↦ None | Some v ↦ Some v.owner ]

-- a frame is in use and belongs to this process
abbrev pub is_owned : CacheValue → ℕ → ℕ → Bool
is_owned c q f = elim (c.frame f) [ None ↦ false | Some v ↦ v.owner == q ]

-- the mark of a frame
abbrev pub mark_of : CacheValue → ℕ → ℕ
mark_of c f = elim (c.frame f) [ None ↦ 0 | Some v ↦ v.mark ]

-- the frames of a process, oldest first
abbrev pub frames_of : CacheValue → ℕ → List ℕ
frames_of c q = filter (λ f. is_owned c q f) c.lru

-- the key that the eviction policy compares: 0 by policy 0, and otherwise the mark or the floor,
-- whichever is more
abbrev pub victim_key : PolValue → CacheValue → ℕ → ℕ
victim_key pol c f = cond (pol.chosen == 0) 0 (max (mark_of c f) (pol.param 1))

-- The candidate for eviction is the oldest of these frames by policy 0. By policy 1 it is the
-- oldest frame with the least key, which is its mark or the floor, whichever is more.
abbrev pub victim_among : PolValue → CacheValue → List ℕ → Option ℕ
victim_among pol c fs = least (victim_key pol c) fs

-- ---- reading ahead

-- How many blocks to read ahead. Policy 0 says 0. Policy 1 says, after a sequential read, the least
-- of its parameter, the window and what is left, and otherwise 0. Policy 2 says the same after any
-- read, with its own parameter.
abbrev pub ahead_count : PolValue → Bool → ℕ → ℕ → ℕ
ahead_count pol seq window left =
    cond (pol.chosen == 0) 0
    (cond (pol.chosen == 1) (cond seq (min (pol.param 1) (min window left)) 0)
    (min (pol.param 2) (min window left)))

-- where reading ahead starts in a file of this many blocks, at `next` or at the file's end if that
-- comes first, and how many blocks it reads
abbrev pub ahead_in : PolValue → OpenRow → ℕ → ℕ × ℕ
ahead_in pol o blocks = let start = min o.next blocks in
    (start, ahead_count pol o.seq o.window (blocks - start))

-- how many blocks an open file has, 0 if none is open
abbrev pub open_blocks : World → Option OpenRow → ℕ
open_blocks v None = 0
open_blocks v (Some o) = blocks_of v o.file

-- the default answer of a read-ahead point
abbrev pub ahead_default : World → PolValue → Option OpenRow → ℕ × ℕ
ahead_default v pol None = (0, 0)
ahead_default v pol (Some o) = ahead_in pol o (blocks_of v o.file)

-- ---- points

-- the kinds of points
pub data PointKind : Type 0 where
  Ahead : PointKind
  Victim : PointKind
  Next : PointKind
  Serve : PointKind
  Stream : PointKind

-- Points 0 to 3 read ahead, 4 evicts, 5 chooses a process, 6 to 13 serve events, and the others
-- change streams.
abbrev pub kind_of : ℕ → PointKind
kind_of pt =
    cond (nat_lt pt 4) Ahead
    (cond (pt == 4) Victim (cond (pt == 5) Next (cond (nat_lt pt 14) Serve Stream)))

-- the default answer of each kind of point
abbrev pub default_by : PointKind → World → Things → ℕ → ℕ → ℕ × ℕ
default_by Ahead v w q pt = ahead_default v (w.pol 0) (w.file q pt)
default_by Victim v w q pt = (or_zero (victim_among (w.pol 1) w.cache (frames_of w.cache q)), 0)
default_by Next v w q pt = (q, 0)
default_by Serve v w q pt = (0, 0)
default_by Stream v w q pt = (0, 0)

-- The default answer of a point: for reading ahead the start and the policy's count, for eviction
-- the candidate among the installer's frames, for scheduling the installer itself.
abbrev pub default_of : World → Things → ℕ → ℕ → ℕ × ℕ
default_of v w q pt = default_by (kind_of pt) v w q pt

-- the arguments of a point of q; a piece that asks which frame to evict puts the block to come in
-- the second place
abbrev pub args_by : PointKind → World → Things → ℕ → ℕ → List ℕ
args_by Ahead v w q pt =
    let d = ahead_default v (w.pol 0) (w.file q pt) in
    d.0 ∷ d.1 ∷ open_blocks v (w.file q pt) ∷ pt ∷ []
args_by Victim v w q pt =
    or_zero (victim_among (w.pol 1) w.cache (frames_of w.cache q)) ∷ 0
    ∷ length (frames_of w.cache q) ∷ 0 ∷ []
args_by Next v w q pt = q ∷ nice_of w.queue q ∷ length w.queue ∷ 0 ∷ []
args_by Serve v w q pt = 0 ∷ 0 ∷ 0 ∷ 0 ∷ []
args_by Stream v w q pt = 0 ∷ 0 ∷ 0 ∷ 0 ∷ []

-- this kind of point accepts the answer r0, r1
abbrev pub valid_by : PointKind → Things → ℕ → List ℕ → ℕ → ℕ → Bool
valid_by Ahead w q args r0 r1 = nat_le r1 8 && nat_le (r0 + r1) (slice_index args 2)
valid_by Victim w q args r0 r1 = is_owned w.cache q r0
valid_by Next w q args r0 r1 = lives w.queue r0
valid_by Serve w q args r0 r1 = nat_le r0 512
valid_by Stream w q args r0 r1 = r0 == slice_index args 0

-- An answer r0, r1 to a point of q that was asked with these arguments is valid if it is, for
-- reading ahead, at most 8 blocks that end within the file; for eviction, a frame in use that
-- belongs to q; for scheduling, a living process; for an event, at most 512 bytes; for a stream, as
-- many bytes as were handed in.
abbrev pub valid : Things → ℕ → ℕ → List ℕ → ℕ → ℕ → Bool
valid w q pt args r0 r1 = valid_by (kind_of pt) w q args r0 r1
