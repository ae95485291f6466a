-- The pieces that leave grafts and accounts as they are, and all of those but spawn and yield that
-- leave the queue too.
use Rattle.std.specs.Prelude.{◌≡◌, ℕ, zero, suc, Bool, true, false, List, Option, None, Some, Result, Ok, Err}
use Rattle.std.proofs.Common.{arith, refl}
use Rattle.kernel_model.specs.declared.OpenRow.{OpenRow}
use Rattle.kernel_model.specs.declared.Refusal.{Refusal}
use Rattle.kernel_model.specs.World.{World, Blocks}
use Rattle.kernel_model.specs.Objects.{Objects, CacheValue, FrameValue, at}
use Rattle.kernel_model.specs.Meaning.{Piece, disk_fails}
use Rattle.kernel_model.specs.Needs.{file_block, ahead_block}
use Rattle.kernel_model.specs.Fetch.{Fetched, Got, Failed, fetch, fetch_ahead, cleaned, dirty_value}
use Rattle.kernel_model.specs.FilePieces.{with_cache, disk_failed, open_piece, close_piece}
use Rattle.kernel_model.specs.FilePieces.{read_piece, read_first, read_third, read_first_at}
use Rattle.kernel_model.specs.FilePieces.{read_third_at, write_fetched, write_piece, sync_from}
use Rattle.kernel_model.specs.Pieces.{spawn_piece, yield_piece, lock_piece, unlock_piece, tune_piece}

-- a piece leaves grafts and accounts, and the processes in their order
pub record LeavesProcesses (s : Objects) (a : Piece) : Type 0 where
  pub accounts : a.objects.accounts ≡ s.accounts
  pub queue : a.objects.things.queue ≡ s.things.queue

-- a new process
pub spawn_accounts : (s : Objects) (c : Option ℕ) (blocks : Blocks) →
    (spawn_piece s c blocks).objects.accounts ≡ s.accounts
spawn_accounts s None blocks = refl
spawn_accounts s (Some c) blocks = refl

-- a yield
pub yield_accounts : (n : ℕ) (s : Objects) (p : ℕ) (answer : Option (List ℕ)) (blocks : Blocks) →
    (yield_piece n s p answer blocks).objects.accounts ≡ s.accounts
yield_accounts zero s p answer blocks = refl
yield_accounts (suc n) s p answer blocks = refl

-- a file opened
pub open_leaves : (s : Objects) (p : ℕ) (file fd : Option ℕ) (blocks : Blocks) →
    LeavesProcesses s (open_piece s p file fd blocks)
open_leaves s p None fd blocks = record { accounts = refl; queue = refl }
open_leaves s p (Some n) None blocks = record { accounts = refl; queue = refl }
open_leaves s p (Some n) (Some fd) blocks = record { accounts = refl; queue = refl }

-- a file closed
pub close_leaves : (s : Objects) (p fd : ℕ) (o : Option OpenRow) (blocks : Blocks) →
    LeavesProcesses s (close_piece s p fd o blocks)
close_leaves s p fd None blocks = record { accounts = refl; queue = refl }
close_leaves s p fd (Some o) blocks = record { accounts = refl; queue = refl }

-- a lock taken
pub take_leaves : (s : Objects) (p u : ℕ) (h : Option ℕ) (blocks : Blocks) →
    LeavesProcesses s (lock_piece s p u h blocks)
take_leaves s p u None blocks = record { accounts = refl; queue = refl }
take_leaves s p u (Some h) blocks = record { accounts = refl; queue = refl }

-- a lock let go
pub free_leaves : (s : Objects) (p u : ℕ) (h : Option ℕ) (blocks : Blocks) →
    LeavesProcesses s (unlock_piece s p u h blocks)
free_leaves s p u h blocks = grind arith

-- a parameter set
pub tune_leaves : (s : Objects) (kind k x : ℕ) (blocks : Blocks) →
    LeavesProcesses s (tune_piece s kind k x blocks)
tune_leaves s kind k x blocks = grind arith

-- a read, once its block is fetched
first_leaves : (s : Objects) (blocks : Blocks) (p fd i off len : ℕ) (o : OpenRow) (f : Fetched) →
    LeavesProcesses s (read_first s blocks p fd i off len o f)
first_leaves s blocks p fd i off len o (Got cache after frame calls) =
    record { accounts = refl; queue = refl }
first_leaves s blocks p fd i off len o (Failed calls) = record { accounts = refl; queue = refl }

-- a read ahead, once its block is fetched
third_leaves : (s : Objects) (blocks : Blocks) (p fd i off len : ℕ) (o : OpenRow) (f : Fetched) →
    LeavesProcesses s (read_third s blocks p fd i off len o f)
third_leaves s blocks p fd i off len o (Got cache after frame calls) =
    record { accounts = refl; queue = refl }
third_leaves s blocks p fd i off len o (Failed calls) = record { accounts = refl; queue = refl }

-- a read of a block
first_at_leaves : (r : Result ℕ Refusal) (v : World) (s : Objects) (blocks : Blocks)
    (p fd i off len : ℕ) (o : OpenRow) (answer : Option (List ℕ)) (io : List Bool) →
    LeavesProcesses s (read_first_at r v s blocks p fd i off len o answer io)
first_at_leaves (Err refusal) v s blocks p fd i off len o answer io =
    record { accounts = refl; queue = refl }
first_at_leaves (Ok b) v s blocks p fd i off len o answer io =
    first_leaves s blocks p fd i off len o
    (fetch v (s.things.pol 1) p b answer s.things.cache blocks io)

-- a read ahead of a block
third_at_leaves : (r : Result ℕ Refusal) (v : World) (s : Objects) (blocks : Blocks)
    (p fd i off len : ℕ) (o : OpenRow) (answer : Option (List ℕ)) (io : List Bool) →
    LeavesProcesses s (read_third_at r v s blocks p fd i off len o answer io)
third_at_leaves (Err refusal) v s blocks p fd i off len o answer io =
    record { accounts = refl; queue = refl }
third_at_leaves (Ok b) v s blocks p fd i off len o answer io =
    third_leaves s blocks p fd i off len o
    (fetch_ahead v (s.things.pol 1) p b answer s.things.cache blocks io)

-- a read
pub read_leaves_processes : (n : ℕ) (v : World) (s : Objects) (blocks : Blocks) (p fd i off len : ℕ)
    (o : Option OpenRow) (answer : Option (List ℕ)) (io : List Bool) →
    LeavesProcesses s (read_piece n v s blocks p fd i off len o answer io)
read_leaves_processes n v s blocks p fd i off len None answer io =
    record { accounts = refl; queue = refl }
read_leaves_processes zero v s blocks p fd i off len (Some o) answer io =
    first_at_leaves (file_block v (Some o) i off len) v s blocks p fd i off len o answer io
read_leaves_processes (suc zero) v s blocks p fd i off len (Some o) answer io =
    record { accounts = refl; queue = refl }
read_leaves_processes (suc (suc n)) v s blocks p fd i off len (Some o) answer io =
    third_at_leaves (ahead_block v (Some o)) v s blocks p fd i off len o answer io

-- a write, once its block is fetched
write_fetched_leaves : (s : Objects) (blocks : Blocks) (off : ℕ) (new : List ℕ) (f : Fetched) →
    LeavesProcesses s (write_fetched s blocks off new f)
write_fetched_leaves s blocks off new (Got cache after frame calls) =
    record { accounts = refl; queue = refl }
write_fetched_leaves s blocks off new (Failed calls) = record { accounts = refl; queue = refl }

-- a write
pub write_leaves_processes : (r : Result ℕ Refusal) (v : World) (s : Objects) (blocks : Blocks)
    (p off : ℕ) (new : List ℕ) (answer : Option (List ℕ)) (io : List Bool) →
    LeavesProcesses s (write_piece r v s blocks p off new answer io)
write_leaves_processes (Err refusal) v s blocks p off new answer io =
    record { accounts = refl; queue = refl }
write_leaves_processes (Ok b) v s blocks p off new answer io =
    write_fetched_leaves s blocks off new
    (fetch v (s.things.pol 1) p b answer s.things.cache blocks io)

-- states with the same processes, another cache apart
after_cache : (s : Objects) (c : CacheValue) (a : Piece) → LeavesProcesses (with_cache c s) a →
    LeavesProcesses s a
after_cache s c a h = record { accounts = h.accounts; queue = h.queue }

-- a sync
pub sync_leaves : (n f written : ℕ) (s : Objects) (blocks : Blocks) (io : List Bool) →
    LeavesProcesses s (sync_from n f written s blocks io)
sync_leaves zero f written s blocks io = record { accounts = refl; queue = refl }
sync_leaves (suc n) f written s blocks io =
    elim (dirty_value (s.things.cache.frame f)) as (λ (x : Option FrameValue). LeavesProcesses s
    (elim x as (λ (y : Option FrameValue). Piece) [
      | None ↦ sync_from n (suc f) written s blocks io
      | Some value ↦ elim (disk_fails io written) as (λ (b : Bool). Piece) [
        | true ↦ disk_failed s blocks (suc written)
        | false ↦ sync_from n (suc f) (suc written) (with_cache (cleaned f value s.things.cache) s)
            (at value.block value.bytes blocks) io
      ]
    ])) [
      | None ↦ sync_leaves n (suc f) written s blocks io
      | Some value ↦ elim (disk_fails io written) as (λ (b : Bool). LeavesProcesses s
          (elim b as (λ (x : Bool). Piece) [
            | true ↦ disk_failed s blocks (suc written)
            | false ↦ sync_from n (suc f) (suc written)
                (with_cache (cleaned f value s.things.cache) s)
                (at value.block value.bytes blocks) io
          ])) [
            | true ↦ record { accounts = refl; queue = refl }
            | false ↦ after_cache s (cleaned f value s.things.cache) _
                (sync_leaves n (suc f) (suc written) (with_cache (cleaned f value s.things.cache) s)
                (at value.block value.bytes blocks) io)
          ]
    ]
