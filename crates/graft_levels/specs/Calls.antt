-- What must hold of a graft call in place for its next instruction, and what an instruction leaves
-- as it was.
use Rattle.std.specs.Prelude.{◌≡◌, ◌≢◌, ℕ, ◌+◌, ◌*◌, ◌<◌, ◌≤◌, false, true, List, [], ◌∷◌, length, slice_index, ⊤, ◌⊎◌}
use Rattle.kernel_model.specs.declared.Object.{Object}
use Rattle.kernel_model.specs.declared.Held.{Held}
use Rattle.kernel_model.specs.declared.Need.{Need}
use Rattle.kernel_model.specs.Locks.{LockTable, with_touch}
use Rattle.kernel_model.specs.World.{ImageTable}
use Rattle.kernel_model.specs.declared.QueueRow.{QueueRow}
use Rattle.kernel_model.specs.Objects.{Accounts, Things}
use Rattle.kernel_model.specs.Policies.{lives}
use Rattle.kernel_model.specs.Levels.{base_of, code_of, limit_in}
use Rattle.kernel_model.specs.Boxed.{IsInside}
use Rattle.kernel_model.specs.Sound.{ImagesAreLoaded}
use Rattle.undo_calls.specs.UndoLevels.{Logged}
use Rattle.lock_table.specs.declared.Holds.{Holds}
use Rattle.lock_table.specs.Masks.{held}
use Rattle.graft_machine.specs.Cpu.{machine_of}
use Rattle.graft_machine.specs.Contained.{IsOutside}
use Rattle.kernel_state.specs.declared.Store.{Store}
use Rattle.kernel_state.specs.Stores.{world_of_store, objects_of, queue_of}
use Rattle.graft_accessors.specs.Accesses.{CanBeUndone, StayUndoable}
use Rattle.graft_levels.specs.declared.GraftLevel.{GraftLevel}
use Rattle.graft_levels.specs.declared.Chain.{Chain}
use Rattle.graft_levels.specs.declared.Innermost.{Innermost}
use Rattle.graft_levels.specs.Chains.{is_running_in, put_back_on}

-- ---- what must hold

-- a level: its owner lives
pub record IsSoundLevel (queue : List QueueRow) (g : GraftLevel) : Type 0 where
  pub lives : lives queue g.owner ≡ true

-- levels, innermost first: each is sound, and no graft is two of them
abbrev pub AreSound : List QueueRow → List GraftLevel → Type 0
AreSound queue [] = ⊤
AreSound queue (g ∷ gs) = IsSoundLevel queue g × (is_running_in gs g.owner g.point ≡ false)
    × AreSound queue gs

-- Level d of process p runs: its count is within the limit of its graft, and its machine is inside
-- its segment on the code of its graft, whatever memory has. So its graft stands, and the image of
-- it is loaded.
pub record RunsInside (images : ImageTable) (a : Accounts) (p d : ℕ) (g : GraftLevel) : Type 0 where
  pub count : g.count ≤ limit_in (a.graft g.owner g.point)
  pub inside : (ram : List ℕ) →
      IsInside (code_of images a g.owner g.point) (4 * p + d) (machine_of g.machine ram)

-- levels of process p, innermost first, that run
abbrev pub AreInside : ImageTable → Accounts → ℕ → List GraftLevel → Type 0
AreInside images a p [] = ⊤
AreInside images a p (g ∷ gs) = RunsInside images a p (length gs) g × AreInside images a p gs

-- each of some records can be undone
abbrev pub AreUndoable : List Logged → Things → Type 0
AreUndoable [] w = ⊤
AreUndoable (i ∷ is) w = CanBeUndone i.inverse w × AreUndoable is w

-- so can each record of a log
abbrev pub AllUndoable : List (List Logged) → Things → Type 0
AllUndoable [] w = ⊤
AllUndoable (is ∷ log) w = AreUndoable is w × AllUndoable log w

-- Levels of process p with this undo log stand in place on a store: there are at most four, each
-- with its records, the process holds nothing further inward, and all records can be undone.
pub record IsPlaced {B : Type 0} {P : _} (s : Store B P) (t : List (List Holds)) (p : ℕ)
    (gs : List GraftLevel) (log : List (List Logged)) : Type 0 where
  pub process : p < 16
  pub few : length gs ≤ 4
  pub as_many : length log ≡ length gs
  pub unheld : (d : ℕ) (o : Object) → length gs ≤ d → held t p d o ≡ Held.Free
  pub levels : AreSound (queue_of s) gs
  pub undoable : AllUndoable log (objects_of s).things

-- A graft call in place: nothing more is needed for its next instruction, nor for a drop, and both
-- keep it.
pub record IsInPlace {B : Type 0} {P : _} (s : Store B P) (t : List (List Holds))
    (images : ImageTable) (p : ℕ) (gs : List GraftLevel) (log : List (List Logged)) : Type 0 where
  pub placed : IsPlaced s t p gs log
  pub inside : AreInside images (objects_of s).accounts p gs
  -- an ask begins a level on the image of any graft that stands
  pub loaded : ImagesAreLoaded images (objects_of s).accounts

-- the levels of a call whose innermost one was taken out of the chain
abbrev pub with_innermost : Innermost → Chain → List GraftLevel
with_innermost g c = g.level ∷ c.levels

-- Such a call stands in place, as far as its levels go.
abbrev pub IsTaken : {B : Type 0} {P : _} → Store B P → List (List Holds) → Innermost → Chain →
    Type 0
IsTaken s t g c = IsPlaced s t g.process (with_innermost g c) c.undo

-- Such a call stands in place.
abbrev pub IsTakenInPlace : {B : Type 0} {P : _} → Store B P → List (List Holds) → ImageTable →
    Innermost → Chain → Type 0
IsTakenInPlace s t images g c = IsInPlace s t images g.process (with_innermost g c) c.undo

-- ---- other memory

-- a store is another one but for what memory has
pub record HasOtherMemory {B : Type 0} {P : _} (s u : Store B P) : Type 0 where
  pub setup : u.setup ≡ s.setup
  pub size : u.size ≡ s.size
  pub procs : u.procs ≡ s.procs
  pub accounts : u.accounts ≡ s.accounts
  pub cache : u.cache ≡ s.cache
  pub dir : u.dir ≡ s.dir
  pub choice : u.choice ≡ s.choice
  pub shelf : u.shelf ≡ s.shelf
  pub kept : u.kept ≡ s.kept

-- ---- what stays

-- a place of memory is in none of the four segments of process p
abbrev pub IsBeyond : (p a : ℕ) → Type 0
IsBeyond p a = (a < base_of p 0) ⊎ (base_of p 4 ≤ a)

-- Of all that the state of objects doesn't tell, another store and lock table have the same: the
-- set-up, who lives, what other processes hold, and the bytes of memory outside the segments of
-- process p.
pub record IsElsewhereSame {B : Type 0} {P : _} (s u : Store B P) (t r : List (List Holds))
    (p : ℕ) : Type 0 where
  pub world : world_of_store u ≡ world_of_store s
  pub living : (q : ℕ) → lives (queue_of u) q ≡ lives (queue_of s) q
  pub others : (q d : ℕ) → q ≢ p → held r q d ≡ held t q d
  pub memory : (a : ℕ) → IsBeyond p a → slice_index u.ram a ≡ slice_index s.ram a

-- The levels of a chain of process p are what these levels of it came to: they stand in place,
-- levels that ran go on running, loaded images stay loaded, and the memory stays as it was, and so
-- does all that the state of objects doesn't tell.
pub record StaysPlaced {B : Type 0} {P : _} (s u : Store B P) (t r : List (List Holds)) (p : ℕ)
    (gs : List GraftLevel) (c : Chain) : Type 0 where
  pub placed : IsPlaced u r p c.levels c.undo
  pub inside : (images : ImageTable) → AreInside images (objects_of s).accounts p gs →
      AreInside images (objects_of u).accounts p c.levels
  pub loaded : (images : ImageTable) → ImagesAreLoaded images (objects_of s).accounts →
      ImagesAreLoaded images (objects_of u).accounts
  pub elsewhere : IsElsewhereSame s u t r p
  pub memory : u.ram ≡ s.ram

-- ---- what is written

-- how many levels are outside the innermost one
abbrev pub depth_of : List GraftLevel → ℕ
depth_of [] = 0
depth_of (g ∷ gs) = length gs

-- Of memory only the segment of level n of process p is written, if that level began: these are the
-- levels afterwards.
abbrev pub HasWrittenBegun : (p n : ℕ) → List GraftLevel → (m k : List ℕ) → Type 0
HasWrittenBegun p n hs m k = (a : ℕ) → (n < length hs → IsOutside (4 * p + n) a) →
    slice_index k a ≡ slice_index m a

-- Of memory only the innermost level's own segment is written, and that of a level that began:
-- these are the levels before and afterwards.
abbrev pub HasWrittenOwn : (p : ℕ) (gs hs : List GraftLevel) → (m k : List ℕ) → Type 0
HasWrittenOwn p gs hs m k = (a : ℕ) → IsOutside (4 * p + depth_of gs) a →
    (length gs < length hs → IsOutside (4 * p + length gs) a) → slice_index k a ≡ slice_index m a

-- ---- undoing

-- A store is what putting back these records makes of another one: the same processes live, the
-- world and the memory stay, and what could be undone still can be.
pub record IsPutBack {B : Type 0} {P : _} (is : List Logged) (s u : Store B P) : Type 0 where
  pub objects : objects_of u ≡ put_back_on is (objects_of s)
  pub memory : u.ram ≡ s.ram
  pub world : world_of_store u ≡ world_of_store s
  pub living : (q : ℕ) → lives (queue_of u) q ≡ lives (queue_of s) q
  pub kept : StayUndoable (objects_of s).things (objects_of u).things

-- ---- touches

-- level d of process p touches objects, each in the mode in which it is needed
abbrev pub needs_touched : (p d : ℕ) → List Need → LockTable → LockTable
needs_touched p d [] t = t
needs_touched p d (n ∷ ns) t = needs_touched p d ns (with_touch p d n.object n.mode t)
