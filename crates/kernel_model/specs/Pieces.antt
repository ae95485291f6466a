-- What each piece of each system call does, in one step (`FilePieces` has those of the calls on
-- files); and the meaning of the whole table of calls.
use Rattle.std.specs.Prelude.{ℕ, zero, suc, ◌+◌, ◌-◌, ◌==◌, Bool, true, false, cond, not, ◌&&◌}
use Rattle.std.specs.Prelude.{nat_le, nat_lt, List, [], ◌∷◌, ◌++◌, Option, Some, None, map, filter}
use Rattle.std.specs.Prelude.{length}
use Rattle.kernel_data.specs.declared.Kind.{Kind}
use Rattle.kernel_data.specs.declared.SysCall.{SysCall}
use Rattle.kernel_data.specs.declared.SysCall.TheVariants.{Spawn, Exit, Yield, OpenName, CloseFd}
use Rattle.kernel_data.specs.declared.SysCall.TheVariants.{Read, Write, Sync, TakeLock, FreeLock}
use Rattle.kernel_data.specs.declared.SysCall.TheVariants.{Poke, Peek, Tune, Choose, Give, Install}
use Rattle.kernel_data.specs.declared.SysCall.TheVariants.{Remove, Fund, Bill, Serve, StreamRead}
use Rattle.kernel_data.specs.declared.SysCall.TheVariants.{StreamWrite}
use Rattle.kernel_data.specs.declared.Refusal.{Refusal}
use Rattle.kernel_data.specs.declared.Refusal.TheVariants.{NoProcess, BadPoint, BadIndex, Taken}
use Rattle.kernel_data.specs.declared.Refusal.TheVariants.{NoGraft, Short, Full, NotHeld}
use Rattle.kernel_data.specs.declared.Reply.TheVariants.{One}
use Rattle.kernel_data.specs.declared.QueueRow.{QueueRow}
use Rattle.kernel_data.specs.declared.OpenRow.{OpenRow}
use Rattle.kernel_data.specs.World.{World, Blocks, file_named}
use Rattle.kernel_data.specs.Objects.{Objects, Accounts, Things, GraftValue, AcctValue, FrameValue}
use Rattle.kernel_data.specs.Objects.{at, at2, at_kind, with_accounts, with_things}
use Rattle.kernel_data.specs.Policies.{lives, next_process, or_zero}
use Rattle.kernel_data.specs.Queue.{one_more_slice}
use Rattle.kernel_model.specs.Handlers.{handlers_without_process}
use Rattle.kernel_model.specs.Access.{set_cell, set_param, set_segment, param_top, in_range}
use Rattle.kernel_model.specs.Charges.{removed}
use Rattle.kernel_model.specs.Meaning.{Meaning, Piece, Continues, EndsWith, stage, registers_of}
use Rattle.kernel_model.specs.Early.{TOP_POINT, plain_early}
use Rattle.kernel_model.specs.Needs.{piece_needs, piece_ask, free_process, file_block}
use Rattle.kernel_model.specs.Fetch.{chosen_by}
use Rattle.kernel_model.specs.FilePieces.{leaves, refuses, well, free_descriptor, open_piece}
use Rattle.kernel_model.specs.FilePieces.{close_piece, read_piece, write_piece, sync_from}

-- ---- processes

-- a state with this queue
abbrev pub with_queue : List QueueRow → Objects → Objects
with_queue queue s = with_things (record (s.things) { queue = queue }) s

-- a new process joins at the back
abbrev pub spawn_piece : Objects → Option ℕ → Blocks → Piece
spawn_piece s None blocks = refuses s blocks Full
spawn_piece s (Some c) blocks =
    leaves (with_queue (s.things.queue ++ record { process = c; nice = 20; slices = 0 } ∷ []) s)
    blocks (EndsWith (One c))

-- an empty account
abbrev pub empty_account : AcctValue
empty_account = record { balance = λ k. 0; spent = λ k. 0 }

-- the sum of two accounts
abbrev pub joint_account : AcctValue → AcctValue → AcctValue
joint_account a b = record {
  balance = λ k. a.balance k + b.balance k;
  spent = λ k. a.spent k + b.spent k;
}

-- the grafts of p at the first n points are removed, and their balances go to its account
abbrev pub without_grafts : (p n : ℕ) → Accounts → Accounts
without_grafts p zero a = a
without_grafts p (suc n) a = without_grafts p n (removed p n a)

-- the account of p goes to process 0
abbrev pub account_closed : ℕ → Accounts → Accounts
account_closed p a =
    record a { acct = at p empty_account (at 0 (joint_account (a.acct p) (a.acct 0)) a.acct) }

-- a frame whose owner changes from p to q
abbrev pub handed_over : (p q : ℕ) → Option FrameValue → Option FrameValue
handed_over p q None = None
handed_over p q (Some f) = Some (record f { owner = cond (f.owner == p) q f.owner })

-- a lock without this holder
abbrev pub freed_by : ℕ → Option ℕ → Option ℕ
freed_by p None = None
freed_by p (Some q) = cond (q == p) None (Some q)

-- p's cells are 0, its files are closed, its user locks are free, it isn't in the queue, its
-- handlers are gone, and its frames belong to process 0
abbrev pub things_without : ℕ → Things → Things
things_without p w =
    record {
      cell = λ q k. cond (q == p) 0 (w.cell q k);
      file = λ q fd. cond (q == p) None (w.file q fd);
      queue = filter (λ (r : QueueRow). not (r.process == p)) w.queue;
      cache = record (w.cache) { frame = λ f. handed_over p 0 (w.cache.frame f) };
      lock = λ u. freed_by p (w.lock u);
      pol = w.pol;
      segment = w.segment;
      handlers = handlers_without_process p w.handlers;
    }

-- a process leaves
abbrev pub exit_piece : Objects → ℕ → Blocks → Piece
exit_piece s p blocks =
    leaves (record {
      accounts = account_closed p (without_grafts p 16 s.accounts);
      things = things_without p s.things;
    }) blocks well

-- a process goes to the back of the queue
abbrev pub to_back : ℕ → List QueueRow → List QueueRow
to_back p rows = filter (λ (r : QueueRow). not (r.process == p)) rows
    ++ filter (λ (r : QueueRow). r.process == p) rows

-- the queue with one more slice for a process
abbrev pub add_slice : ℕ → List QueueRow → List QueueRow
add_slice p rows =
    map (λ (r : QueueRow). cond (r.process == p) (record r { slices = one_more_slice r.slices }) r)
    rows

-- first p goes to the back; then the process of the answer gets a slice, and the call returns it
abbrev pub yield_piece : ℕ → Objects → ℕ → Option (List ℕ) → Blocks → Piece
yield_piece zero s p answer blocks =
    leaves (with_queue (to_back p s.things.queue) s) blocks (Continues (stage Yield 1))
yield_piece (suc n) s p answer blocks =
    let c = chosen_by answer (or_zero (next_process (s.things.pol 2) s.things.queue)) in
    leaves (with_queue (add_slice c s.things.queue) s) blocks (EndsWith (One c))

-- ---- cells, locks and policies

-- a cell gets a value
abbrev pub poke_piece : Objects → (p k x : ℕ) → Blocks → Piece
poke_piece s p k x blocks = leaves (with_things (set_cell p k x s.things) s) blocks well

-- a user lock gets a holder, or becomes free
abbrev pub with_holder : ℕ → Option ℕ → Objects → Objects
with_holder u h s = with_things (record (s.things) { lock = at u h s.things.lock }) s

-- a user lock is taken; if it is held already, the caller itself holds it
abbrev pub lock_piece : Objects → (p u : ℕ) → Option ℕ → Blocks → Piece
lock_piece s p u (Some h) blocks = refuses s blocks Refusal.Held
lock_piece s p u None blocks = leaves (with_holder u (Some p) s) blocks well

-- the holder of a user lock frees it
abbrev pub unlock_piece : Objects → (p u : ℕ) → Option ℕ → Blocks → Piece
unlock_piece s p u None blocks = refuses s blocks NotHeld
unlock_piece s p u (Some h) blocks =
    elim (h == p) [
      | true ↦ leaves (with_holder u None s) blocks well
      | false ↦ refuses s blocks NotHeld
    ]

-- a parameter of the chosen policy gets a value
abbrev pub tune_piece : Objects → (kind k x : ℕ) → Blocks → Piece
tune_piece s kind k x blocks =
    elim (in_range (param_top kind (s.things.pol kind).chosen) k x) [
      | true ↦ leaves (with_things (set_param kind x s.things) s) blocks well
      | false ↦ refuses s blocks BadIndex
    ]

-- a policy is chosen; no parameter changes
abbrev pub choose_piece : Objects → (kind j : ℕ) → Blocks → Piece
choose_piece s kind j blocks =
    leaves (with_things
    (record (s.things)
    { pol = at kind (record (s.things.pol kind) { chosen = j }) s.things.pol }) s) blocks
    well

-- ---- amounts and grafts

-- an account with this amount less
abbrev pub less : Kind → ℕ → AcctValue → AcctValue
less k n a = record a { balance = at_kind k (a.balance k - n) a.balance }

-- an account with this amount more
abbrev pub more : Kind → ℕ → AcctValue → AcctValue
more k n a = record a { balance = at_kind k (a.balance k + n) a.balance }

-- accounts after p gave an amount to q, which may be p
abbrev pub accounts_after : (ℕ → AcctValue) → (p q : ℕ) → Kind → ℕ → ℕ → AcctValue
accounts_after accts p q k n = let u = at p (less k n (accts p)) accts in at q (more k n (u q)) u

-- an amount goes from one account to another, unless the first has too little
abbrev pub pay_piece : Objects → (p q : ℕ) → Kind → ℕ → Blocks → (short : Bool) → Piece
pay_piece s p q k n blocks true = refuses s blocks (Short ((s.accounts.acct p).balance k))
pay_piece s p q k n blocks false =
    leaves (with_accounts (record (s.accounts) { acct = accounts_after s.accounts.acct p q k n }) s)
    blocks well

-- an amount goes from one account to another, if the receiver lives
abbrev pub give_piece : Objects → (p q : ℕ) → Kind → ℕ → Blocks → (lives : Bool) → Piece
give_piece s p q k n blocks false = refuses s blocks NoProcess
give_piece s p q k n blocks true =
    pay_piece s p q k n blocks (nat_lt ((s.accounts.acct p).balance k) n)

-- a graft that was just installed: balances 0, not billed
abbrev pub new_graft : (image limit : ℕ) → GraftValue
new_graft i limit = record { image = i; limit = limit; billed = false; balance = λ k. 0 }

-- a point gets a graft
abbrev pub with_graft : (p pt : ℕ) → GraftValue → Accounts → Accounts
with_graft p pt g a = record a { graft = at2 p pt (Some g) a.graft }

-- a graft is installed at a point; nothing is kept for it yet
abbrev pub with_new_graft : (p pt : ℕ) → GraftValue → Objects → Objects
with_new_graft p pt g s =
    record {
      accounts = with_graft p pt g s.accounts;
      things = set_segment p pt None s.things;
    }

-- a graft is installed at a point that has none
abbrev pub install_piece : Objects → (p pt : ℕ) → GraftValue → Option GraftValue → Blocks → Piece
install_piece s p pt g (Some h) blocks = refuses s blocks Taken
install_piece s p pt g None blocks =
    leaves (with_new_graft p pt g s) blocks well

-- a graft is removed, and its balances go back
abbrev pub remove_piece : Objects → (p pt : ℕ) → Option GraftValue → Blocks → Piece
remove_piece s p pt None blocks = refuses s blocks NoGraft
remove_piece s p pt (Some g) blocks = leaves (with_accounts (removed p pt s.accounts) s) blocks well

-- a graft with this amount more
abbrev pub funded : Kind → ℕ → GraftValue → GraftValue
funded k n g = record g { balance = at_kind k (g.balance k + n) g.balance }

-- accounts and grafts after an amount went from the account of p to its graft
abbrev pub accounts_funded : (p pt : ℕ) → Kind → ℕ → GraftValue → Accounts → Accounts
accounts_funded p pt k n g a =
    record {
      graft = at2 p pt (Some (funded k n g)) a.graft;
      acct = at p (less k n (a.acct p)) a.acct;
    }

-- an amount goes from the account to a graft, unless the account has too little
abbrev pub fund_piece : Objects → (p pt : ℕ) → Kind → ℕ → Option GraftValue → Blocks → Piece
fund_piece s p pt k n None blocks = refuses s blocks NoGraft
fund_piece s p pt k n (Some g) blocks =
    elim (nat_lt ((s.accounts.acct p).balance k) n) [
      | true ↦ refuses s blocks (Short ((s.accounts.acct p).balance k))
      | false ↦ leaves (with_accounts (accounts_funded p pt k n g s.accounts) s) blocks well
    ]

-- from now on the installer's account pays
abbrev pub bill_piece : Objects → (p pt : ℕ) → Option GraftValue → Blocks → Piece
bill_piece s p pt None blocks = refuses s blocks NoGraft
bill_piece s p pt (Some g) blocks =
    leaves (with_accounts (with_graft p pt (record g { billed = true }) s.accounts) s) blocks well

-- ---- all of them

-- the piece of this number, from 0
abbrev pub piece_of : SysCall → ℕ → World → Objects → Blocks → ℕ → Option (List ℕ) → List Bool →
    Piece
piece_of Spawn n v s blocks p answer io = spawn_piece s (free_process s.things.queue 16 0) blocks
piece_of Exit n v s blocks p answer io = exit_piece s p blocks
piece_of Yield n v s blocks p answer io = yield_piece n s p answer blocks
piece_of (OpenName name) n v s blocks p answer io =
    open_piece s p (file_named v name) (free_descriptor s.things p 4 0) blocks
piece_of (CloseFd fd) n v s blocks p answer io = close_piece s p fd (s.things.file p fd) blocks
piece_of (Read fd i off len) n v s blocks p answer io =
    read_piece n v s blocks p fd i off len (s.things.file p fd) answer io
piece_of (Write fd i off bytes) n v s blocks p answer io =
    write_piece (file_block v (s.things.file p fd) i off (length bytes)) v s blocks p off bytes
    answer io
piece_of Sync n v s blocks p answer io = sync_from v.frames 0 0 s blocks io
piece_of (TakeLock u) n v s blocks p answer io = lock_piece s p u (s.things.lock u) blocks
piece_of (FreeLock u) n v s blocks p answer io = unlock_piece s p u (s.things.lock u) blocks
piece_of (Poke k x) n v s blocks p answer io = poke_piece s p k x blocks
piece_of (Peek k) n v s blocks p answer io = leaves s blocks (EndsWith (One (s.things.cell p k)))
piece_of (Tune kind k x) n v s blocks p answer io = tune_piece s kind k x blocks
piece_of (Choose kind j) n v s blocks p answer io = choose_piece s kind j blocks
piece_of (Give q k x) n v s blocks p answer io =
    give_piece s p q k x blocks (lives s.things.queue q)
piece_of (Install pt i limit) n v s blocks p answer io =
    install_piece s p pt (new_graft i limit) (s.accounts.graft p pt) blocks
piece_of (Remove pt) n v s blocks p answer io = remove_piece s p pt (s.accounts.graft p pt) blocks
piece_of (Fund pt k x) n v s blocks p answer io =
    fund_piece s p pt k x (s.accounts.graft p pt) blocks
piece_of (Bill pt) n v s blocks p answer io = bill_piece s p pt (s.accounts.graft p pt) blocks
piece_of (Serve port bytes) n v s blocks p answer io = refuses s blocks BadPoint
piece_of (StreamRead fd i off len) n v s blocks p answer io = refuses s blocks BadPoint
piece_of (StreamWrite fd i off bytes) n v s blocks p answer io = refuses s blocks BadPoint

-- at the later pieces of a read its file is open, and from the third on there is something to read
-- ahead
abbrev pub read_fits : ℕ → Option OpenRow → Bool
read_fits zero o = true
read_fits (suc n) None = false
read_fits (suc zero) (Some o) = true
read_fits (suc (suc n)) (Some o) = nat_le 1 o.count

-- A call may be before the piece of this number: a read, of one of the four descriptors, before
-- each of its three, and any other call up to its last.
abbrev pub piece_fits : SysCall → ℕ → Things → ℕ → Bool
piece_fits Yield n w p = nat_le n 1
piece_fits (Read fd i off len) n w p = nat_lt fd 4 && (nat_le n 2 && read_fits n (w.file p fd))
piece_fits c n w p = n == 0

-- how many pieces are left of a read: at most ten
abbrev pub read_left : ℕ → Option OpenRow → ℕ
read_left zero o = 10
read_left (suc n) None = 1
read_left (suc zero) (Some o) = 9
read_left (suc (suc n)) (Some o) = o.count

-- how many pieces a call may still take
abbrev pub pieces_left : SysCall → ℕ → Things → ℕ → ℕ
pieces_left Yield n w p = 2 - n
pieces_left (Read fd i off len) n w p = read_left n (w.file p fd)
pieces_left c n w p = 1

-- the meaning of the calls of the table, with points up to this one
abbrev pub plain_upto : (top : ℕ) → Meaning
plain_upto top =
    record {
      early = plain_early top;
      need = λ v s p t. piece_needs t.call t.piece v s p;
      asks = λ v s p t. piece_ask t.call t.piece v s.things p;
      feed = λ t. [];
      piece = λ v images s blocks p t answer io.
          piece_of t.call t.piece v s blocks p (registers_of answer) io;
      fits = λ v s p t. piece_fits t.call t.piece s.things p;
      left = λ v s p t. pieces_left t.call t.piece s.things p;
    }

-- the meaning of the plain calls, whose points go up to `TOP_POINT`
abbrev pub plain_calls : Meaning
plain_calls = plain_upto TOP_POINT
