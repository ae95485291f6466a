-- Pieces and the disk: frames stay on it, and blocks stay whole.
use Rattle.std.specs.Prelude.{◌≡◌, ℕ, zero, suc, ◌<◌, ◌≤◌, Bool, ◌&&◌, nat_lt, nat_le, length, List}
use Rattle.std.specs.Prelude.{Option, None, Some, Result, Ok, Err}
use Rattle.std.proofs.Common.{arith, refl, subst, sym}
use Rattle.std.proofs.lemmas.Bool.Decides.{nat_tests}
use Rattle.kernel_model.specs.declared.Kind.{Kind}
use Rattle.kernel_model.specs.declared.OpenRow.{OpenRow}
use Rattle.kernel_model.specs.declared.Refusal.{Refusal}
use Rattle.kernel_model.specs.declared.SysCall.{SysCall}
use Rattle.kernel_model.specs.declared.SysCall.TheVariants.{Spawn, Exit, Yield, OpenName, CloseFd}
use Rattle.kernel_model.specs.declared.SysCall.TheVariants.{Read, Write, Sync, TakeLock, FreeLock}
use Rattle.kernel_model.specs.declared.SysCall.TheVariants.{Poke, Peek, Tune, Choose, Give, Install}
use Rattle.kernel_model.specs.declared.SysCall.TheVariants.{Remove, Fund, Bill}
use Rattle.kernel_model.specs.World.{World, ImageTable, Blocks, file_named}
use Rattle.kernel_model.specs.Objects.{Objects, CacheValue, FrameValue, GraftValue, at}
use Rattle.kernel_model.specs.Policies.{lives}
use Rattle.kernel_model.specs.Meaning.{Piece}
use Rattle.kernel_model.specs.Needs.{file_block, ahead_block, free_process}
use Rattle.kernel_model.specs.Fetch.{Fetched, Got, Failed, fetch, fetch_ahead, with_patch, patched}
use Rattle.kernel_model.specs.FilePieces.{free_descriptor, open_piece, close_piece, read_piece}
use Rattle.kernel_model.specs.FilePieces.{read_first, read_third, read_first_at, read_third_at}
use Rattle.kernel_model.specs.FilePieces.{write_fetched, write_piece}
use Rattle.std.proofs.lemmas.Bool.{and_parts}
use Rattle.kernel_model.specs.Pieces.{read_fits, piece_of, spawn_piece, exit_piece, yield_piece}
use Rattle.kernel_model.specs.Pieces.{lock_piece, unlock_piece, tune_piece, give_piece}
use Rattle.kernel_model.specs.Pieces.{install_piece, remove_piece, fund_piece, bill_piece}
use Rattle.kernel_model.specs.Pieces.{new_graft, handed_over}
use Rattle.kernel_model.specs.Sound.{IsSoundStore, HasWholeBlocks}
use Rattle.call_laws.specs.SoundCaches.{cache_of_store}
use Rattle.call_laws.specs.FetchCases.{AllGot}
use Rattle.call_laws.specs.SoundFetches.{FramesFit, fetch_fits, ahead_fits, fetch_whole, ahead_whole}
use Rattle.call_laws.specs.SoundFiles.{file_block_is, ahead_block_is}
use Rattle.call_laws.specs.GrantedCalls.{PieceReady, some_ahead}
use Rattle.call_laws.specs.Syncs.{sync_fits, sync_whole}

-- frames stay on the disk, and blocks stay whole
pub record KeepsDisk (v : World) (s : Objects) (blocks : Blocks) (a : Piece) : Type 0 where
  pub fits : FramesFit v s.things.cache → FramesFit v a.objects.things.cache
  pub whole : HasWholeBlocks v blocks → HasWholeBlocks v a.blocks

-- a piece that leaves the cache and the disk
record LeavesDisk (s : Objects) (blocks : Blocks) (a : Piece) : Type 0 where
  cache : a.objects.things.cache ≡ s.things.cache
  disk : a.blocks ≡ blocks

-- it keeps both
keeps_by : (v : World) (s : Objects) (blocks : Blocks) (a : Piece) → LeavesDisk s blocks a →
    KeepsDisk v s blocks a
keeps_by v s blocks a h = record {
  fits = λ k. subst (λ c. FramesFit v c) (sym h.cache) k;
  whole = λ k. subst (λ b. HasWholeBlocks v b) (sym h.disk) k;
}

-- ---- the calls but for exit, read, write and sync

-- a new process
spawn_disk : (s : Objects) (c : Option ℕ) (blocks : Blocks) →
    LeavesDisk s blocks (spawn_piece s c blocks)
spawn_disk s c blocks = grind arith

-- a yield
yield_disk : (n : ℕ) (s : Objects) (p : ℕ) (answer : Option (List ℕ)) (blocks : Blocks) →
    LeavesDisk s blocks (yield_piece n s p answer blocks)
yield_disk zero s p answer blocks = record { cache = refl; disk = refl }
yield_disk (suc n) s p answer blocks = record { cache = refl; disk = refl }

-- a file opened
open_disk : (s : Objects) (p : ℕ) (file fd : Option ℕ) (blocks : Blocks) →
    LeavesDisk s blocks (open_piece s p file fd blocks)
open_disk s p file fd blocks = grind arith

-- a file closed
close_disk : (s : Objects) (p fd : ℕ) (o : Option OpenRow) (blocks : Blocks) →
    LeavesDisk s blocks (close_piece s p fd o blocks)
close_disk s p fd o blocks = grind arith

-- a lock taken
take_disk : (s : Objects) (p u : ℕ) (h : Option ℕ) (blocks : Blocks) →
    LeavesDisk s blocks (lock_piece s p u h blocks)
take_disk s p u h blocks = grind arith

-- a lock let go
free_disk : (s : Objects) (p u : ℕ) (h : Option ℕ) (blocks : Blocks) →
    LeavesDisk s blocks (unlock_piece s p u h blocks)
free_disk s p u h blocks = grind arith

-- a parameter set
tune_disk : (s : Objects) (kind k x : ℕ) (blocks : Blocks) →
    LeavesDisk s blocks (tune_piece s kind k x blocks)
tune_disk s kind k x blocks = grind arith

-- a gift
give_disk : (s : Objects) (p q : ℕ) (k : Kind) (n : ℕ) (blocks : Blocks) (l : Bool) →
    LeavesDisk s blocks (give_piece s p q k n blocks l)
give_disk s p q k n blocks l = grind arith

-- a graft put in place
install_disk : (s : Objects) (p pt : ℕ) (new : GraftValue) (old : Option GraftValue)
    (blocks : Blocks) → LeavesDisk s blocks (install_piece s p pt new old blocks)
install_disk s p pt new old blocks = grind arith

-- a graft taken out
remove_disk : (s : Objects) (p pt : ℕ) (old : Option GraftValue) (blocks : Blocks) →
    LeavesDisk s blocks (remove_piece s p pt old blocks)
remove_disk s p pt None blocks = record { cache = refl; disk = refl }
remove_disk s p pt (Some g) blocks = record { cache = refl; disk = refl }

-- a graft funded
fund_disk : (s : Objects) (p pt : ℕ) (k : Kind) (n : ℕ) (old : Option GraftValue)
    (blocks : Blocks) → LeavesDisk s blocks (fund_piece s p pt k n old blocks)
fund_disk s p pt k n old blocks = grind arith

-- a graft billed
bill_disk : (s : Objects) (p pt : ℕ) (old : Option GraftValue) (blocks : Blocks) →
    LeavesDisk s blocks (bill_piece s p pt old blocks)
bill_disk s p pt old blocks = grind arith

-- frames that went to process 0 have their blocks
handed_fits : (v : World) (p : ℕ) (o : Option FrameValue) (x : FrameValue) →
    ((y : FrameValue) → o ≡ Some y → y.block < v.disk_size) →
    handed_over p 0 o ≡ Some x → x.block < v.disk_size
handed_fits v p None x h e = cc
handed_fits v p (Some y) x h e = let k = h y refl in let same : y.block ≡ x.block = cc in
    omega arith

-- an exit
exit_disk : (v : World) (s : Objects) (p : ℕ) (blocks : Blocks) →
    KeepsDisk v s blocks (exit_piece s p blocks)
exit_disk v s p blocks =
    record {
      fits = λ h f x e. handed_fits v p (s.things.cache.frame f) x (λ y k. h f y k) e;
      whole = λ h. h;
    }

-- ---- reads and writes

-- the first piece of a read, once its block is fetched
first_fetched : (v : World) (s : Objects) (blocks : Blocks) (p fd i off len : ℕ) (o : OpenRow)
    (f : Fetched) →
    (FramesFit v s.things.cache → AllGot (λ c after. FramesFit v c) f) →
    (HasWholeBlocks v blocks → AllGot (λ c after. HasWholeBlocks v after) f) →
    KeepsDisk v s blocks (read_first s blocks p fd i off len o f)
first_fetched v s blocks p fd i off len o (Failed calls) h k =
    record { fits = λ a. a; whole = λ a. a }
first_fetched v s blocks p fd i off len o (Got cache after frame calls) h k =
    record { fits = h; whole = k }

-- a later piece of a read, once its block is fetched
third_fetched : (v : World) (s : Objects) (blocks : Blocks) (p fd i off len : ℕ) (o : OpenRow)
    (f : Fetched) →
    (FramesFit v s.things.cache → AllGot (λ c after. FramesFit v c) f) →
    (HasWholeBlocks v blocks → AllGot (λ c after. HasWholeBlocks v after) f) →
    KeepsDisk v s blocks (read_third s blocks p fd i off len o f)
third_fetched v s blocks p fd i off len o (Failed calls) h k =
    record { fits = λ a. a; whole = λ a. a }
third_fetched v s blocks p fd i off len o (Got cache after frame calls) h k =
    record { fits = h; whole = k }

-- the first piece of a read
first_disk : (r : Result ℕ Refusal) (v : World) (s : Objects) (blocks : Blocks) (p fd i off len : ℕ)
    (o : OpenRow) (answer : Option (List ℕ)) (io : List Bool) →
    IsSoundStore v s → ((b : ℕ) → r ≡ Ok b → b < v.disk_size) →
    KeepsDisk v s blocks (read_first_at r v s blocks p fd i off len o answer io)
first_disk (Err refusal) v s blocks p fd i off len o answer io h low =
    record { fits = λ a. a; whole = λ a. a }
first_disk (Ok b) v s blocks p fd i off len o answer io h low =
    first_fetched v s blocks p fd i off len o
    (fetch v (s.things.pol 1) p b answer s.things.cache blocks io)
    (λ fits. fetch_fits v (s.things.pol 1) p b answer s.things.cache blocks io fits (low b refl))
    (λ whole. fetch_whole v s.things.queue (s.things.pol 1) p b answer s.things.cache blocks io
    (cache_of_store v s h) whole)

-- a later piece of a read
third_disk : (r : Result ℕ Refusal) (v : World) (s : Objects) (blocks : Blocks) (p fd i off len : ℕ)
    (o : OpenRow) (answer : Option (List ℕ)) (io : List Bool) →
    IsSoundStore v s → ((b : ℕ) → r ≡ Ok b → b < v.disk_size) →
    KeepsDisk v s blocks (read_third_at r v s blocks p fd i off len o answer io)
third_disk (Err refusal) v s blocks p fd i off len o answer io h low =
    record { fits = λ a. a; whole = λ a. a }
third_disk (Ok b) v s blocks p fd i off len o answer io h low =
    third_fetched v s blocks p fd i off len o
    (fetch_ahead v (s.things.pol 1) p b answer s.things.cache blocks io)
    (λ fits. ahead_fits v (s.things.pol 1) p b answer s.things.cache blocks io fits (low b refl))
    (λ whole. ahead_whole v s.things.queue (s.things.pol 1) p b answer s.things.cache blocks io
    (cache_of_store v s h) whole)

-- a piece of a read
read_disk : (n : ℕ) (v : World) (s : Objects) (blocks : Blocks) (p fd i off len : ℕ)
    (row : Option OpenRow) (answer : Option (List ℕ)) (io : List Bool) → IsSoundStore v s →
    ((b : ℕ) → file_block v row i off len ≡ Ok b → b < v.disk_size) →
    ((b : ℕ) → 2 ≤ n → ahead_block v row ≡ Ok b → b < v.disk_size) →
    KeepsDisk v s blocks (read_piece n v s blocks p fd i off len row answer io)
read_disk n v s blocks p fd i off len None answer io h low next =
    record { fits = λ a. a; whole = λ a. a }
read_disk zero v s blocks p fd i off len (Some o) answer io h low next =
    first_disk (file_block v (Some o) i off len) v s blocks p fd i off len o answer io h low
read_disk (suc zero) v s blocks p fd i off len (Some o) answer io h low next =
    record { fits = λ a. a; whole = λ a. a }
read_disk (suc (suc n)) v s blocks p fd i off len (Some o) answer io h low next =
    third_disk (ahead_block v (Some o)) v s blocks p fd i off len o answer io h
    (λ b e. next b (omega arith) e)

-- bytes put into a frame leave its block
patch_fits : (v : World) (f off : ℕ) (new : List ℕ) (c : CacheValue) (g : ℕ) (x : FrameValue) →
    FramesFit v c → (with_patch f off new c).frame g ≡ Some x → x.block < v.disk_size
patch_fits v f off new c g x h e = by_frame v f off new c g x (c.frame f) refl h e
  where
    -- by what the frame holds
    by_frame : (v : World) (f off : ℕ) (new : List ℕ) (c : CacheValue) (g : ℕ) (x : FrameValue)
        (y : Option FrameValue) → c.frame f ≡ y →
        FramesFit v c → at f (patched off new y) c.frame g ≡ Some x → x.block < v.disk_size
    by_frame v f off new c g x None k h e = let b : (z : FrameValue) → c.frame g ≡ Some z →
        z.block < v.disk_size = h g in grind (arith, nat_tests)
    by_frame v f off new c g x (Some y) k h e = let a = h f y k in let b : (z : FrameValue) →
        c.frame g ≡ Some z → z.block < v.disk_size = h g in grind (arith, nat_tests)

-- a write, once its block is fetched
write_fetched_disk : (v : World) (s : Objects) (blocks : Blocks) (off : ℕ) (new : List ℕ)
    (f : Fetched) →
    (FramesFit v s.things.cache → AllGot (λ c after. FramesFit v c) f) →
    (HasWholeBlocks v blocks → AllGot (λ c after. HasWholeBlocks v after) f) →
    KeepsDisk v s blocks (write_fetched s blocks off new f)
write_fetched_disk v s blocks off new (Failed calls) h k = record { fits = λ a. a; whole = λ a. a }
write_fetched_disk v s blocks off new (Got cache after frame calls) h k =
    record { fits = λ a g x e. patch_fits v frame off new cache g x (h a) e; whole = k }

-- a write
write_disk : (r : Result ℕ Refusal) (v : World) (s : Objects) (blocks : Blocks) (p off : ℕ)
    (new : List ℕ) (answer : Option (List ℕ)) (io : List Bool) →
    IsSoundStore v s → ((b : ℕ) → r ≡ Ok b → b < v.disk_size) →
    KeepsDisk v s blocks (write_piece r v s blocks p off new answer io)
write_disk (Err refusal) v s blocks p off new answer io h low =
    record { fits = λ a. a; whole = λ a. a }
write_disk (Ok b) v s blocks p off new answer io h low =
    write_fetched_disk v s blocks off new
    (fetch v (s.things.pol 1) p b answer s.things.cache blocks io)
    (λ fits. fetch_fits v (s.things.pol 1) p b answer s.things.cache blocks io fits (low b refl))
    (λ whole. fetch_whole v s.things.queue (s.things.pol 1) p b answer s.things.cache blocks io
    (cache_of_store v s h) whole)

-- ---- all calls

-- the next block ahead is on the disk
ahead_on_disk : (n : ℕ) (v : World) (images : ImageTable) (s : Objects) (p fd i off len b : ℕ)
    (row : Option OpenRow) (answer : Option (List ℕ)) →
    PieceReady (Read fd i off len) n v images s p answer → s.things.file p fd ≡ row → 2 ≤ n →
    ahead_block v row ≡ Ok b → b < v.disk_size
ahead_on_disk n v images s p fd i off len b None answer h e low k = cc
ahead_on_disk n v images s p fd i off len b (Some o) answer h e low k =
    (ahead_block_is v o b s.things.cache h.store.world h.disk (h.store.files p fd o e).1
    (some_ahead n (s.things.file p fd) o
    (and_parts (nat_lt fd 4) (nat_le n 2 && read_fits n (s.things.file p fd)) h.fits).1 e
    low) k).on_disk

-- a piece keeps the disk
pub disk_by : (c : SysCall) (n : ℕ) (v : World) (images : ImageTable) (s : Objects)
    (blocks : Blocks) (p : ℕ) (answer : Option (List ℕ)) (io : List Bool) →
    PieceReady c n v images s p answer → KeepsDisk v s blocks (piece_of c n v s blocks p answer io)
disk_by Spawn n v images s blocks p answer io h =
    keeps_by v s blocks _ (spawn_disk s (free_process s.things.queue 16 0) blocks)
disk_by Exit n v images s blocks p answer io h = exit_disk v s p blocks
disk_by Yield n v images s blocks p answer io h =
    keeps_by v s blocks _ (yield_disk n s p answer blocks)
disk_by (OpenName name) n v images s blocks p answer io h =
    keeps_by v s blocks _
    (open_disk s p (file_named v name) (free_descriptor s.things p 4 0) blocks)
disk_by (CloseFd fd) n v images s blocks p answer io h =
    keeps_by v s blocks _ (close_disk s p fd (s.things.file p fd) blocks)
disk_by (Read fd i off len) n v images s blocks p answer io h =
    read_disk n v s blocks p fd i off len (s.things.file p fd) answer io h.store
    (λ b e. (file_block_is v
    (s.things.file p fd) i off len b s.things.cache h.store.world h.disk e).on_disk)
    (λ b low e. ahead_on_disk n v images s p fd i off len b
    (s.things.file p fd) answer h refl low e)
disk_by (Write fd i off bytes) n v images s blocks p answer io h =
    write_disk (file_block v (s.things.file p fd) i off (length bytes)) v s blocks p off bytes
    answer io h.store
    (λ b e. (file_block_is v (s.things.file p fd) i off
    (length bytes) b s.things.cache h.store.world h.disk e).on_disk)
disk_by Sync n v images s blocks p answer io h =
    record {
      fits = λ k. sync_fits v v.frames 0 0 s blocks io k;
      whole = λ k. sync_whole v v.frames 0 0 s blocks io h.store k;
    }
disk_by (TakeLock u) n v images s blocks p answer io h =
    keeps_by v s blocks _ (take_disk s p u (s.things.lock u) blocks)
disk_by (FreeLock u) n v images s blocks p answer io h =
    keeps_by v s blocks _ (free_disk s p u (s.things.lock u) blocks)
disk_by (Poke k x) n v images s blocks p answer io h = record { fits = λ a. a; whole = λ a. a }
disk_by (Peek k) n v images s blocks p answer io h = record { fits = λ a. a; whole = λ a. a }
disk_by (Tune kind k x) n v images s blocks p answer io h =
    keeps_by v s blocks _ (tune_disk s kind k x blocks)
disk_by (Choose kind j) n v images s blocks p answer io h = record { fits = λ a. a; whole = λ a. a }
disk_by (Give q k x) n v images s blocks p answer io h =
    keeps_by v s blocks _ (give_disk s p q k x blocks (lives s.things.queue q))
disk_by (Install pt i limit) n v images s blocks p answer io h =
    keeps_by v s blocks _ (install_disk s p pt (new_graft i limit) (s.accounts.graft p pt) blocks)
disk_by (Remove pt) n v images s blocks p answer io h =
    keeps_by v s blocks _ (remove_disk s p pt (s.accounts.graft p pt) blocks)
disk_by (Fund pt k x) n v images s blocks p answer io h =
    keeps_by v s blocks _ (fund_disk s p pt k x (s.accounts.graft p pt) blocks)
disk_by (Bill pt) n v images s blocks p answer io h =
    keeps_by v s blocks _ (bill_disk s p pt (s.accounts.graft p pt) blocks)
-- the calls of other tables are refused
disk_by c n v images s blocks p answer io h = record { fits = λ a. a; whole = λ a. a }
