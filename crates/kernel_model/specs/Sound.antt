-- Which states, graft calls and abstract kernels are sound, and which kernels rest. Soundness of a
-- state has three parts: the store by itself, the images of its grafts, and the disk below it.
use Rattle.std.specs.Prelude.{◌≡◌, ◌≢◌, ℕ, zero, suc, ◌+◌, ◌<◌, ◌≤◌, Bool, true, false, cond, ◌==◌}
use Rattle.std.specs.Prelude.{◌&&◌, nat_lt, List, [], ◌∷◌, Option, Some, None, is_some, map, length}
use Rattle.std.specs.Prelude.{Contains, ⊤}
use Rattle.std.specs.List.{list_any}
use Rattle.std.specs.Result.{is_ok}
use Rattle.kernel_data.specs.declared.Object.{Object}
use Rattle.kernel_data.specs.declared.Object.TheVariants.{Graft, Acct}
use Rattle.kernel_data.specs.declared.Held.{Held}
use Rattle.kernel_data.specs.declared.Kind.{Kind}
use Rattle.kernel_data.specs.declared.QueueRow.{QueueRow}
use Rattle.kernel_data.specs.declared.OpenRow.{OpenRow}
use Rattle.kernel_data.specs.declared.FileRow.{FileRow}
use Rattle.kernel_data.specs.World.{World, ImageTable, Blocks, file_row, blocks_of}
use Rattle.kernel_data.specs.Objects.{Objects, Accounts, GraftValue, FrameValue, CacheValue, PolValue}
use Rattle.kernel_data.specs.Policies.{lives}
use Rattle.kernel_model.specs.Handlers.{is_handler, AreHandlers}
use Rattle.kernel_model.specs.Access.{Found, param_top, changed_by}
use Rattle.kernel_model.specs.Early.{policy_count}
use Rattle.kernel_model.specs.Meaning.{Meaning}
use Rattle.kernel_model.specs.Levels.{Level, Config, level_at, outermost_touched}
use Rattle.kernel_model.specs.GraftStep.{record_count}
use Rattle.kernel_model.specs.UndoLog.{undo_log, kept_by_log}
use Rattle.kernel_model.specs.InPlace.{is_changed_in}
use Rattle.kernel_model.specs.History.{Mark}
use Rattle.kernel_model.specs.Kernel.{Call, Waiter, Kernel, is_at_piece}
use Rattle.kernel_model.specs.Blocking.{trace_of, config_of, levels_of, holds, needs, blocker}

-- ---- amounts and counts

-- the sum of a function below a number
unfoldable pub sum_below : ℕ → (ℕ → ℕ) → ℕ
sum_below zero f = 0
sum_below (suc n) f = sum_below n f + f n

-- what a graft has, or 0 if there is none
abbrev pub graft_balance : Kind → Option GraftValue → ℕ
graft_balance k None = 0
graft_balance k (Some g) = g.balance k

-- the ledger of a process in a kind is its balance, what it has spent, and the balances of its
-- grafts
abbrev pub ledger : Accounts → Kind → ℕ → ℕ
ledger a k q =
    (a.acct q).balance k + (a.acct q).spent k + sum_below 16 (λ pt. graft_balance k (a.graft q pt))

-- how often a number is in a list
abbrev pub count_of : ℕ → List ℕ → ℕ
count_of x [] = 0
count_of x (y ∷ ys) = cond (y == x) (suc (count_of x ys)) (count_of x ys)

-- 1 if the test holds, otherwise 0
abbrev pub once_if : Bool → ℕ
once_if test = cond test 1 0

-- the processes in the queue, front first
abbrev pub in_queue : List QueueRow → List ℕ
in_queue queue = map (λ (r : QueueRow). r.process) queue

-- ---- sound states

-- nothing is left of a process that doesn't live
pub record IsGone (s : Objects) (p : ℕ) : Type 0 where
  pub cells : (k : ℕ) → s.things.cell p k ≡ 0
  pub files : (fd : ℕ) → s.things.file p fd ≡ None
  pub balances : (k : Kind) → (s.accounts.acct p).balance k ≡ 0
  pub spent : (k : Kind) → (s.accounts.acct p).spent k ≡ 0

-- an open file is in the directory, and the blocks to read ahead end within it
pub record IsSoundFile (v : World) (o : OpenRow) : Type 0 where
  pub usable : is_some (file_row v o.file) ≡ true
  pub count : o.count ≤ 8
  pub within : o.start + o.count ≤ blocks_of v o.file
  pub window : o.window ≤ 8

-- a frame in use holds a whole block, and its owner lives
pub record IsSoundFrame (queue : List QueueRow) (x : FrameValue) : Type 0 where
  pub owner : lives queue x.owner ≡ true
  pub block : x.block < 4096
  pub mark : x.mark ≤ 255
  pub bytes : length x.bytes ≡ 512

-- a parameter is in the range of its policy, if it has one
abbrev pub ParamFits : Option ℕ → ℕ → Type 0
ParamFits None x = ⊤
ParamFits (Some top) x = x ≤ top

-- a chosen policy is one of its kind, and parameters are in their ranges
pub record IsSoundPolicy (kind : ℕ) (p : PolValue) : Type 0 where
  pub chosen : p.chosen < policy_count kind
  pub params : (j : ℕ) → j < policy_count kind → ParamFits (param_top kind j) (p.param j)

-- what no call changes is within its limits: 2 to 64 frames, a directory within 4,096 blocks, and
-- ids up to 15
pub record IsSoundWorld (v : World) : Type 0 where
  pub frames_some : 2 ≤ v.frames
  pub frames_most : v.frames ≤ 64
  pub entries : length v.directory ≤ 16
  pub files : (n : ℕ) (r : FileRow) → file_row v n ≡ Some r → r.start + r.blocks ≤ 4096
  pub callable : v.callable ≤ 15

-- a store is sound by itself, without images and disk
pub record IsSoundStore (v : World) (s : Objects) : Type 0 where
  pub world : IsSoundWorld v
  -- the queue lists each living process once, and 0 is among them
  pub root : lives s.things.queue 0 ≡ true
  pub once : (p : ℕ) → count_of p (in_queue s.things.queue) ≡ once_if (lives s.things.queue p)
  pub numbers : (p : ℕ) → lives s.things.queue p ≡ true → p < 16
  -- nices are in their range
  pub nices : (r : QueueRow) → Contains s.things.queue r → r.nice ≤ 39
  -- the order of use lists each frame in use once, and no block is in two frames
  pub in_use : (f : ℕ) → count_of f s.things.cache.lru ≡ once_if (is_some (s.things.cache.frame f))
  pub frame_numbers : (f : ℕ) → is_some (s.things.cache.frame f) ≡ true → f < v.frames
  pub one_frame : (f g : ℕ) (x y : FrameValue) → s.things.cache.frame f ≡ Some x →
      s.things.cache.frame g ≡ Some y → x.block ≡ y.block → f ≡ g
  -- a frame in use holds a whole block, and its owner lives
  pub frames : (f : ℕ) (x : FrameValue) → s.things.cache.frame f ≡ Some x →
      IsSoundFrame s.things.queue x
  -- holders of locks and installers of grafts live
  pub holders : (u p : ℕ) → s.things.lock u ≡ Some p → (u < 16) × (lives s.things.queue p ≡ true)
  pub grafts : (q pt : ℕ) (g : GraftValue) → s.accounts.graft q pt ≡ Some g → (pt < 16)
      × (lives s.things.queue q ≡ true)
  -- nothing is left of a process that doesn't live
  pub gone : (p : ℕ) → lives s.things.queue p ≡ false → IsGone s p
  -- open files are usable entries, and their blocks to read ahead end within them
  pub files : (p fd : ℕ) (o : OpenRow) → s.things.file p fd ≡ Some o → (fd < 4) × IsSoundFile v o
  -- policies and their parameters are in their ranges
  pub policies : (kind : ℕ) → kind < 3 → IsSoundPolicy kind (s.things.pol kind)
  -- handlers belong to event points, and to processes that live
  pub handlers : AreHandlers s.things.handlers
  pub handlers_live : (q pt : ℕ) → list_any (is_handler q pt) s.things.handlers ≡ true →
      lives s.things.queue q ≡ true
  -- nothing is kept at points that don't exist
  pub segments : (q pt : ℕ) → (nat_lt q 16 && nat_lt pt 16) ≡ false → s.things.segment q pt ≡ None
  -- nothing of any kind is made or lost: the ledgers add up to the grant
  pub ledgers : (k : Kind) → sum_below 16 (ledger s.accounts k) ≡ v.grant

-- the image of each installed graft is loaded
abbrev pub ImagesAreLoaded : ImageTable → Accounts → Type 0
ImagesAreLoaded images a = (q pt : ℕ) (g : GraftValue) → a.graft q pt ≡ Some g →
    is_some (images g.image) ≡ true

-- the disk has 1 to 4,096 blocks, and each usable file and each frame's block is on it
pub record FitsDisk (v : World) (c : CacheValue) : Type 0 where
  pub some : 1 ≤ v.disk_size
  pub most : v.disk_size ≤ 4096
  pub files : (n : ℕ) (r : FileRow) → file_row v n ≡ Some r → r.start + r.blocks ≤ v.disk_size
  pub frames : (f : ℕ) (x : FrameValue) → c.frame f ≡ Some x → x.block < v.disk_size

-- a state is sound if its store is, the images of its grafts are loaded, and it fits the disk
pub record IsSoundState (v : World) (images : ImageTable) (s : Objects) : Type 0 where
  pub store : IsSoundStore v s
  pub images_loaded : ImagesAreLoaded images s.accounts
  pub disk : FitsDisk v s.things.cache

-- each block of the disk has 512 bytes
abbrev pub HasWholeBlocks : World → Blocks → Type 0
HasWholeBlocks v blocks = (b : ℕ) → b < v.disk_size → length (blocks b) ≡ 512

-- ---- sound graft calls

-- the object of each record of these levels is held exclusively by the level that owns the record,
-- or by one outside it
abbrev pub AreRecorded : List Level → Type 0
AreRecorded [] = ⊤
AreRecorded (l ∷ ls) =
    ((i : Found) → Contains l.records i → is_changed_in (l ∷ ls) (changed_by i) ≡ true)
    × AreRecorded ls

-- A graft call on a sound state: it has one to four levels, and their grafts are installed and
-- different; level 0 holds each level's graft and its installer's account exclusively, so that
-- charges can always be made again; each record's object is held exclusively by the level that owns
-- the record or by one outside it; and what a level found is sound, and is what the undo log gives.
pub record IsSoundConfig (v : World) (c : Config) : Type 0 where
  pub now : IsSoundStore v c.now
  pub some : 1 ≤ length c.levels
  pub most : length c.levels ≤ 4
  pub grafts : (l : Level) → Contains c.levels l →
      is_some (c.now.accounts.graft l.owner l.point) ≡ true
  pub different : (d e : ℕ) (l n : Level) → level_at d c.levels ≡ Some l →
      level_at e c.levels ≡ Some n →
      l.owner ≡ n.owner → l.point ≡ n.point → d ≡ e
  pub paid : (l : Level) → Contains c.levels l →
      (outermost_touched c.levels (Graft l.owner l.point) ≡ Held.Exclusive)
      × (outermost_touched c.levels (Acct l.owner) ≡ Held.Exclusive)
  pub recorded : AreRecorded c.levels
  pub few : record_count c.levels ≤ 64
  pub found : (l : Level) → Contains c.levels l →
      IsSoundStore v (record (c.now) { things = l.kept })
  pub kept : map (λ (l : Level). l.kept) c.levels ≡ kept_by_log c.now.things (undo_log c.levels)

-- ---- abstract kernels

-- two calls can't hold an object in these ways at the same time: one of the holds is exclusive
abbrev pub clash : Held → Held → Bool
clash Held.Free h = false
clash Held.Shared Held.Exclusive = true
clash Held.Shared h = false
clash Held.Exclusive Held.Free = false
clash Held.Exclusive h = true

-- the processes in the order of waiting
abbrev pub in_the_order : Kernel → List ℕ
in_the_order k = map (λ (e : Waiter). e.process) k.order

-- An abstract kernel is sound if its state is, its histories can be replayed, its calls are at
-- stages that fit, and the order contains the processes that it must contain.
pub record IsSoundKernel (m : Meaning) (k : Kernel) : Type 0 where
  pub state : IsSoundState k.world k.images k.objects
  -- each history leads to a config: no instruction on the way drops a level, and each effect finds
  -- what it needs
  pub runs : (p : ℕ) (c : Call) (ks : List Mark) → k.call p ≡ Some c → c.marks ≡ Some ks →
      is_some (trace_of m k p (Some c)) ≡ true
  -- the graft of each level is installed
  pub grafts : (p : ℕ) (f : Config) (l : Level) → config_of m k p ≡ Some f → Contains f.levels l →
      is_some (f.now.accounts.graft l.owner l.point) ≡ true
  -- no two processes hold an object in conflicting modes
  pub apart : (p q d e : ℕ) (o : Object) → p ≢ q → clash (holds m k p d o) (holds m k q e o) ≡ false
  -- a process with a call in flight lives, and no early refusal of the call applies
  pub callers : (p : ℕ) (c : Call) → k.call p ≡ Some c → lives k.objects.things.queue p ≡ true
  pub granted : (p : ℕ) (c : Call) → k.call p ≡ Some c →
      is_ok (m.early k.world k.images p c.stage.call) ≡ true
  -- each call is at a stage that fits
  pub fit : (p : ℕ) (c : Call) → k.call p ≡ Some c → m.fits k.world k.objects p c.stage ≡ true
  -- each call whose next step is a piece is in the order, once
  pub pieces : (p : ℕ) → is_at_piece (k.call p) ≡ true → count_of p (in_the_order k) ≡ 1
  -- each other entry belongs to a call that is there once, and whose next instruction is a call
  -- that needs an object
  pub others : (e : Waiter) → Contains k.order e → is_at_piece (k.call e.process) ≡ false →
      (count_of e.process (in_the_order k) ≡ 1) × (1 ≤ length (levels_of m k e.process))
      × (1 ≤ length (needs m k e.process))

-- a kernel is at rest if each entry of the order is blocked by the blocker that it keeps
abbrev pub IsAtRest : Meaning → Kernel → Type 0
IsAtRest m k = (e : Waiter) → Contains k.order e → (is_some e.blocker ≡ true)
    × (blocker m k e.process ≡ e.blocker)
