-- The objects that each piece of each call needs, in order, and the point that it asks. Which
-- object comes next depends only on the earlier ones; a list ends with the object that shows a
-- refusal.
use Rattle.std.specs.Prelude.{ℕ, zero, suc, ◌+◌, ◌*◌, ◌==◌, Bool, true, false, cond, ◌&&◌, nat_le}
use Rattle.std.specs.Prelude.{nat_lt, List, [], ◌∷◌, ◌++◌, Option, Some, None, map, length, Result}
use Rattle.std.specs.Prelude.{Ok, Err}
use Rattle.std.specs.List.{range_with_len}
use Rattle.kernel_data.specs.declared.Need.{Need}
use Rattle.kernel_data.specs.declared.Point.{Point}
use Rattle.kernel_data.specs.declared.Object.{Object}
use Rattle.kernel_data.specs.declared.Object.TheVariants.{Graft, Acct, OpenFile, Queue, Cache, Lock, Pol}
use Rattle.kernel_data.specs.declared.Mode.TheVariants.{Shared, Exclusive}
use Rattle.kernel_data.specs.declared.Kind.{Kind}
use Rattle.kernel_data.specs.declared.SysCall.{SysCall}
use Rattle.kernel_data.specs.declared.SysCall.TheVariants.{Spawn, Exit, Yield, OpenName, CloseFd}
use Rattle.kernel_data.specs.declared.SysCall.TheVariants.{Read, Write, Sync, TakeLock, FreeLock}
use Rattle.kernel_data.specs.declared.SysCall.TheVariants.{Poke, Peek, Tune, Choose, Give, Install}
use Rattle.kernel_data.specs.declared.SysCall.TheVariants.{Remove, Fund, Bill, Serve, StreamRead}
use Rattle.kernel_data.specs.declared.SysCall.TheVariants.{StreamWrite}
use Rattle.kernel_data.specs.declared.Refusal.{Refusal}
use Rattle.kernel_data.specs.declared.Refusal.TheVariants.{BadFd, BadIndex}
use Rattle.kernel_data.specs.declared.OpenRow.{OpenRow}
use Rattle.kernel_data.specs.declared.FileRow.{FileRow}
use Rattle.kernel_data.specs.declared.QueueRow.{QueueRow}
use Rattle.kernel_data.specs.World.{World, file_row, block_of}
use Rattle.kernel_data.specs.Objects.{Objects, Things, Accounts, CacheValue, PolValue, GraftValue}
use Rattle.kernel_data.specs.Policies.{lives, next_process, or_zero, args_by, Next, Ahead}
use Rattle.kernel_data.specs.Policies.{victim_among, frame_owner, frames_of}
use Rattle.kernel_model.specs.Access.{needed}

-- ---- what the lists are made of

-- an object that is needed shared
abbrev pub shared : Object → Need
shared o = needed o Shared

-- an object that is needed exclusively
abbrev pub exclusive : Object → Need
exclusive o = needed o Exclusive

-- the account that may pay, if a graft is installed
abbrev pub payer_needs : ℕ → Option GraftValue → List Need
payer_needs q None = []
payer_needs q (Some g) = exclusive (Acct q) ∷ []

-- the objects of a point: its graft, exclusively, and if one is installed its installer's account,
-- which may pay, exclusively
abbrev pub point_needs : Accounts → (q pt : ℕ) → List Need
point_needs a q pt = exclusive (Graft q pt) ∷ payer_needs q (a.graft q pt)

-- the least number that isn't living, of the n numbers from p on
abbrev pub free_process : List QueueRow → (n p : ℕ) → Option ℕ
free_process queue zero p = None
free_process queue (suc n) p =
    elim (lives queue p) [ true ↦ free_process queue n (suc p) | false ↦ Some p ]

-- ---- the block that a piece fetches

-- bytes off to off + len of block i are in a file
abbrev pub is_within : FileRow → (i off len : ℕ) → Bool
is_within r i off len = nat_lt i r.blocks && nat_le (512 * i + off + len) r.length

-- the disk's block of a usable file that holds these bytes, or the refusal
abbrev pub file_block_in : Option FileRow → (i off len : ℕ) → Result ℕ Refusal
file_block_in None i off len = Err BadFd
file_block_in (Some r) i off len = cond (is_within r i off len) (Ok (r.start + i)) (Err BadIndex)

-- the disk's block of an open file that holds these bytes, or the refusal
abbrev pub file_block : World → Option OpenRow → (i off len : ℕ) → Result ℕ Refusal
file_block v None i off len = Err BadFd
file_block v (Some o) i off len = file_block_in (file_row v o.file) i off len

-- the next block to read ahead
abbrev pub ahead_block : World → Option OpenRow → Result ℕ Refusal
ahead_block v None = Err BadFd
ahead_block v (Some o) = Ok (block_of v o.file o.start)

-- the frame that holds a block, among these
abbrev pub frame_with : CacheValue → ℕ → List ℕ → Option ℕ
frame_with c b [] = None
frame_with c b (f ∷ fs) =
    elim (c.frame f) [
      | None ↦ frame_with c b fs
      | Some r ↦ elim (r.block == b) [ true ↦ Some f | false ↦ frame_with c b fs ]
    ]

-- the frame in use that holds a block
abbrev pub frame_of_block : CacheValue → ℕ → Option ℕ
frame_of_block c b = frame_with c b c.lru

-- the lowest frame that isn't in use, of the n frames from f on
abbrev pub free_frame : CacheValue → (n f : ℕ) → Option ℕ
free_frame c zero f = None
free_frame c (suc n) f = elim (c.frame f) [ None ↦ Some f | Some r ↦ free_frame c n (suc f) ]

-- the candidate, if a frame must be chosen: no frame holds the block, and none is free
abbrev pub candidate_by : Option ℕ → Option ℕ → Option ℕ → Option ℕ
candidate_by None None candidate = candidate
candidate_by _ _ candidate = None

-- the candidate for eviction, if a frame must be chosen for a block
abbrev pub candidate_for : World → PolValue → CacheValue → ℕ → Option ℕ
candidate_for v pol c b =
    candidate_by (frame_of_block c b) (free_frame c v.frames 0) (victim_among pol c c.lru)

-- the owner of a candidate, whose point is asked
abbrev pub owner_asked : CacheValue → ℕ → ℕ
owner_asked c f = or_zero (frame_owner c f)

-- the eviction policy and the objects of that point, if a frame must be chosen
abbrev pub victim_needs : Accounts → CacheValue → Option ℕ → List Need
victim_needs a c None = []
victim_needs a c (Some f) = shared (Pol 1) ∷ point_needs a (owner_asked c f) 4

-- the objects of a fetch, or none if the call is refused
abbrev pub fetch_needs : World → Objects → Result ℕ Refusal → List Need
fetch_needs v s (Err refusal) = []
fetch_needs v s (Ok b) =
    exclusive Cache ∷ victim_needs s.accounts s.things.cache
    (candidate_for v (s.things.pol 1) s.things.cache b)

-- the point of the candidate's owner, for the block that needs a frame
abbrev pub victim_ask : CacheValue → ℕ → Option ℕ → Option Point
victim_ask c b None = None
victim_ask c b (Some f) =
    Some (record {
      installer = owner_asked c f;
      point = 4;
      args = f ∷ b ∷ length (frames_of c (owner_asked c f)) ∷ 0 ∷ [];
    })

-- the point that a fetch asks
abbrev pub fetch_ask : World → Things → Result ℕ Refusal → Option Point
fetch_ask v w (Err refusal) = None
fetch_ask v w (Ok b) = victim_ask w.cache b (candidate_for v (w.pol 1) w.cache b)

-- ---- the objects of each call

-- the queue, and the account of the new process if there is room for one
abbrev pub spawn_needs : Option ℕ → List Need
spawn_needs None = exclusive Queue ∷ []
spawn_needs (Some c) = exclusive Queue ∷ exclusive (Acct c) ∷ []

-- all that belongs to a process, and what takes it over
abbrev pub exit_needs : ℕ → List Need
exit_needs p =
    exclusive Queue ∷ exclusive Cache ∷ exclusive (Acct p) ∷ exclusive (Acct 0)
    ∷ map (λ pt. exclusive (Graft p pt)) (range_with_len 0 16)
    ++ map (λ fd. exclusive (OpenFile p fd)) (range_with_len 0 4)
    ++ map (λ k. exclusive (Object.Cell p k)) (range_with_len 0 4)
    ++ map (λ u. exclusive (Lock u)) (range_with_len 0 16)

-- the objects of the scheduling point of a candidate
abbrev pub slice_needs : Accounts → Option ℕ → List Need
slice_needs a None = []
slice_needs a (Some c) = point_needs a c 5

-- first to the back of the queue, then a slice for the candidate
abbrev pub yield_needs : ℕ → Objects → List Need
yield_needs zero s = exclusive Queue ∷ []
yield_needs (suc n) s =
    exclusive Queue ∷ shared (Pol 2)
    ∷ slice_needs s.accounts (next_process (s.things.pol 2) s.things.queue)

-- first the block itself, then how far to read ahead, then each block ahead
abbrev pub read_needs : ℕ → World → Objects → (p fd i off len : ℕ) → List Need
read_needs zero v s p fd i off len =
    exclusive (OpenFile p fd) ∷ fetch_needs v s (file_block v (s.things.file p fd) i off len)
read_needs (suc zero) v s p fd i off len =
    exclusive (OpenFile p fd) ∷ shared (Pol 0) ∷ point_needs s.accounts p fd
read_needs (suc (suc n)) v s p fd i off len =
    exclusive (OpenFile p fd) ∷ fetch_needs v s (ahead_block v (s.things.file p fd))

-- the accounts of a gift, up to the one that shows the refusal
abbrev pub payment_needs : Accounts → (p q : ℕ) → Kind → ℕ → List Need
payment_needs a p q kind n =
    exclusive (Acct p) ∷ cond (nat_lt ((a.acct p).balance kind) n) [] (exclusive (Acct q) ∷ [])

-- the queue, which shows whether the receiver lives, and then the accounts
abbrev pub give_needs : Objects → (p q : ℕ) → Kind → ℕ → List Need
give_needs s p q kind n =
    shared Queue ∷ cond (lives s.things.queue q) (payment_needs s.accounts p q kind n) []

-- the objects of the piece of this number, from 0
abbrev pub piece_needs : SysCall → ℕ → World → Objects → ℕ → List Need
piece_needs Spawn n v s p = spawn_needs (free_process s.things.queue 16 0)
piece_needs Exit n v s p = exit_needs p
piece_needs Yield n v s p = yield_needs n s
piece_needs (OpenName name) n v s p = map (λ fd. exclusive (OpenFile p fd)) (range_with_len 0 4)
piece_needs (CloseFd fd) n v s p = exclusive (OpenFile p fd) ∷ []
piece_needs (Read fd i off len) n v s p = read_needs n v s p fd i off len
piece_needs (Write fd i off bytes) n v s p =
    shared (OpenFile p fd)
    ∷ fetch_needs v s (file_block v (s.things.file p fd) i off (length bytes))
piece_needs Sync n v s p = exclusive Cache ∷ []
piece_needs (TakeLock u) n v s p = record { object = Lock u; mode = Exclusive; by_user = true } ∷ []
piece_needs (FreeLock u) n v s p = exclusive (Lock u) ∷ []
piece_needs (Poke k x) n v s p = exclusive (Object.Cell p k) ∷ []
piece_needs (Peek k) n v s p = shared (Object.Cell p k) ∷ []
piece_needs (Tune kind k x) n v s p = exclusive (Pol kind) ∷ []
piece_needs (Choose kind j) n v s p = exclusive (Pol kind) ∷ []
piece_needs (Give q kind x) n v s p = give_needs s p q kind x
piece_needs (Install pt i limit) n v s p = exclusive (Graft p pt) ∷ []
piece_needs (Remove pt) n v s p = point_needs s.accounts p pt
piece_needs (Fund pt kind x) n v s p = point_needs s.accounts p pt
piece_needs (Bill pt) n v s p = exclusive (Graft p pt) ∷ []
piece_needs (Serve port bytes) n v s p = []
piece_needs (StreamRead fd i off len) n v s p = []
piece_needs (StreamWrite fd i off bytes) n v s p = []

-- ---- the points that pieces ask

-- the point of the candidate for a slice
abbrev pub slice_ask : World → Things → Option ℕ → Option Point
slice_ask v w None = None
slice_ask v w (Some c) = Some (record { installer = c; point = 5; args = args_by Next v w c 5 })

-- the points of the two pieces of a yield
abbrev pub yield_ask : ℕ → World → Things → Option Point
yield_ask zero v w = None
yield_ask (suc n) v w = slice_ask v w (next_process (w.pol 2) w.queue)

-- the points of the three kinds of pieces of a read
abbrev pub read_ask : ℕ → World → Things → (p fd i off len : ℕ) → Option Point
read_ask zero v w p fd i off len = fetch_ask v w (file_block v (w.file p fd) i off len)
read_ask (suc zero) v w p fd i off len =
    Some (record { installer = p; point = fd; args = args_by Ahead v w p fd })
read_ask (suc (suc n)) v w p fd i off len = fetch_ask v w (ahead_block v (w.file p fd))

-- the point that the piece of this number asks
abbrev pub piece_ask : SysCall → ℕ → World → Things → ℕ → Option Point
piece_ask Yield n v w p = yield_ask n v w
piece_ask (Read fd i off len) n v w p = read_ask n v w p fd i off len
piece_ask (Write fd i off bytes) n v w p =
    fetch_ask v w (file_block v (w.file p fd) i off (length bytes))
piece_ask c n v w p = None
