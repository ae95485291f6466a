-- Pieces and the queue: who lives after a piece, and how many slices it gives.
use Rattle.std.specs.Prelude.{◌≡◌, ◌≢◌, ℕ, zero, suc, ◌+◌, ◌<◌, ◌≤◌, ◌==◌, Bool, true, false}
use Rattle.std.specs.Prelude.{length, List, [], ◌∷◌, Option, None, Some}
use Rattle.std.proofs.Common.{arith, refl, ap, ◌∙◌}
use Rattle.std.proofs.lemmas.Bool.{or_left, cond-false, ne_eqb}
use Rattle.kernel_model.specs.declared.SysCall.{SysCall}
use Rattle.kernel_model.specs.declared.SysCall.TheVariants.{Spawn, Exit, Yield, OpenName, CloseFd}
use Rattle.kernel_model.specs.declared.SysCall.TheVariants.{Read, Write, Sync, TakeLock, FreeLock}
use Rattle.kernel_model.specs.declared.SysCall.TheVariants.{Poke, Peek, Tune, Choose, Give, Install}
use Rattle.kernel_model.specs.declared.SysCall.TheVariants.{Remove, Fund, Bill}
use Rattle.kernel_model.specs.declared.Kind.{Kind}
use Rattle.kernel_model.specs.declared.QueueRow.{QueueRow}
use Rattle.kernel_model.specs.World.{World, Blocks, file_named}
use Rattle.kernel_model.specs.Objects.{Objects, Things, GraftValue}
use Rattle.kernel_model.specs.Meaning.{Piece}
use Rattle.kernel_model.specs.Needs.{file_block, free_process}
use Rattle.kernel_model.specs.FilePieces.{free_descriptor}
use Rattle.kernel_model.specs.Policies.{lives, next_process, or_zero}
use Rattle.kernel_model.specs.Fetch.{chosen_by}
use Rattle.kernel_model.specs.Pieces.{piece_of, spawn_piece, yield_piece, exit_piece, give_piece}
use Rattle.kernel_model.specs.Pieces.{install_piece, remove_piece, fund_piece, bill_piece}
use Rattle.kernel_model.specs.Pieces.{new_graft}
use Rattle.kernel_model.specs.Sound.{count_of, once_if, in_queue}
use Rattle.kernel_model.specs.Laws.{continues, slices_in}
use Rattle.call_laws.specs.SameAccounts.{open_leaves, close_leaves, take_leaves, free_leaves}
use Rattle.call_laws.specs.SameAccounts.{tune_leaves, read_leaves_processes}
use Rattle.call_laws.specs.SameAccounts.{write_leaves_processes, sync_leaves}
use Rattle.call_laws.specs.Rows.{lives_append, lives_others, lives_to_back, lives_add_slice}
use Rattle.call_laws.specs.Rows.{slices_push, slices_others, slices_to_back, slices_add}
use Rattle.call_laws.specs.AskRanges.{once_few}

-- no process but this one ends, and it doesn't if the call goes on
pub record KeepsLiving (s : Objects) (p : ℕ) (a : Piece) : Type 0 where
  pub others : (q : ℕ) → q ≢ p → lives s.things.queue q ≡ true →
      lives a.objects.things.queue q ≡ true
  pub caller : continues a.after ≡ true → lives s.things.queue p ≡ true →
      lives a.objects.things.queue p ≡ true

-- at most one slice is given, and then the call ends
pub record KeepsSlices (s : Objects) (a : Piece) : Type 0 where
  pub one : slices_in a.objects.things.queue ≤ slices_in s.things.queue + 1
  pub ends : slices_in s.things.queue < slices_in a.objects.things.queue → continues a.after ≡ false

-- a piece that leaves the queue keeps who lives
same_living : (s : Objects) (p : ℕ) (a : Piece) → a.objects.things.queue ≡ s.things.queue →
    KeepsLiving s p a
same_living s p a e = record {
  others = λ q other h. ap (λ rows. lives rows q) e ∙ h;
  caller = λ goes h. ap (λ rows. lives rows p) e ∙ h;
}

-- and gives no slice
same_slices : (s : Objects) (a : Piece) → a.objects.things.queue ≡ s.things.queue → KeepsSlices s a
same_slices s a e = let k = ap slices_in e in
    record { one = omega arith; ends = λ h. absurd (omega arith) }

-- a new process
spawn_living : (s : Objects) (p : ℕ) (c : Option ℕ) (blocks : Blocks) →
    KeepsLiving s p (spawn_piece s c blocks)
spawn_living s p None blocks = same_living s p (spawn_piece s None blocks) refl
spawn_living s p (Some c) blocks = record {
  others = λ q other h. lives_append s.things.queue
      (record { process = c; nice = 20; slices = 0 } ∷ []) q ∙ or_left _ _ h;
  caller = λ goes h. lives_append s.things.queue
      (record { process = c; nice = 20; slices = 0 } ∷ []) p ∙ or_left _ _ h;
}

-- it has no slice
spawn_slices : (s : Objects) (c : Option ℕ) (blocks : Blocks) →
    KeepsSlices s (spawn_piece s c blocks)
spawn_slices s None blocks = same_slices s (spawn_piece s None blocks) refl
spawn_slices s (Some c) blocks =
    let k = slices_push s.things.queue (record { process = c; nice = 20; slices = 0 }) refl in
    record { one = omega arith; ends = λ h. refl }

-- an exit
exit_living : (s : Objects) (p : ℕ) (blocks : Blocks) → KeepsLiving s p (exit_piece s p blocks)
exit_living s p blocks = record {
  others = λ q other h. lives_others p s.things.queue q
      ∙ cond-false (q == p) false (lives s.things.queue q) (ne_eqb q p other) ∙ h;
  caller = λ goes h. cc;
}

-- it gives no slice
exit_slices : (s : Objects) (p : ℕ) (blocks : Blocks) → KeepsSlices s (exit_piece s p blocks)
exit_slices s p blocks = let k = slices_others p s.things.queue in
    record { one = omega arith; ends = λ h. refl }

-- a yield
yield_living : (n : ℕ) (s : Objects) (p : ℕ) (answer : Option (List ℕ)) (blocks : Blocks) →
    KeepsLiving s p (yield_piece n s p answer blocks)
yield_living zero s p answer blocks = record {
  others = λ q other h. lives_to_back p s.things.queue q ∙ h;
  caller = λ goes h. lives_to_back p s.things.queue p ∙ h;
}
yield_living (suc n) s p answer blocks =
    let c = chosen_by answer (or_zero (next_process (s.things.pol 2) s.things.queue)) in record {
      others = λ q other h. lives_add_slice c s.things.queue q ∙ h;
      caller = λ goes h. lives_add_slice c s.things.queue p ∙ h;
    }

-- a process stands in the queue at most once
abbrev pub IsOnce : List QueueRow → Type 0
IsOnce rows = (p : ℕ) → count_of p (in_queue rows) ≡ once_if (lives rows p)

-- its second piece gives one
yield_slices : (n : ℕ) (s : Objects) (p : ℕ) (answer : Option (List ℕ)) (blocks : Blocks) →
    IsOnce s.things.queue → KeepsSlices s (yield_piece n s p answer blocks)
yield_slices zero s p answer blocks once = let k = slices_to_back p s.things.queue in
    record { one = omega arith; ends = λ h. absurd (omega arith) }
yield_slices (suc n) s p answer blocks once =
    let c = chosen_by answer (or_zero (next_process (s.things.pol 2) s.things.queue)) in
    let k = slices_add c s.things.queue in
    let one_row = once c in
    let most = once_few (lives s.things.queue c) in
    record { one = omega arith; ends = λ h. refl }

-- the queue of a call that only changes accounts
give_queue : (s : Objects) (p q : ℕ) (k : Kind) (n : ℕ) (blocks : Blocks) (l : Bool) →
    (give_piece s p q k n blocks l).objects.things ≡ s.things
give_queue s p q k n blocks l = grind arith

-- an install
install_queue : (s : Objects) (p pt : ℕ) (new : GraftValue) (old : Option GraftValue)
    (blocks : Blocks) → (install_piece s p pt new old blocks).objects.things.queue ≡ s.things.queue
install_queue s p pt new None blocks = refl
install_queue s p pt new (Some g) blocks = refl

-- a graft taken out
remove_queue : (s : Objects) (p pt : ℕ) (old : Option GraftValue) (blocks : Blocks) →
    (remove_piece s p pt old blocks).objects.things ≡ s.things
remove_queue s p pt None blocks = refl
remove_queue s p pt (Some g) blocks = refl

-- a graft funded
fund_queue : (s : Objects) (p pt : ℕ) (k : Kind) (n : ℕ) (old : Option GraftValue)
    (blocks : Blocks) → (fund_piece s p pt k n old blocks).objects.things ≡ s.things
fund_queue s p pt k n old blocks = grind arith

-- a graft billed
bill_queue : (s : Objects) (p pt : ℕ) (old : Option GraftValue) (blocks : Blocks) →
    (bill_piece s p pt old blocks).objects.things ≡ s.things
bill_queue s p pt None blocks = refl
bill_queue s p pt (Some g) blocks = refl

-- a call that may change the queue
abbrev queues : SysCall → Bool
queues Spawn = true
queues Exit = true
queues Yield = true
queues c = false

-- every other call leaves the queue
leaves_queue : (c : SysCall) (n : ℕ) (v : World) (s : Objects) (blocks : Blocks) (p : ℕ)
    (answer : Option (List ℕ)) (io : List Bool) →
    queues c ≡ false → (piece_of c n v s blocks p answer io).objects.things.queue ≡ s.things.queue
leaves_queue Spawn n v s blocks p answer io h = cc
leaves_queue Exit n v s blocks p answer io h = cc
leaves_queue Yield n v s blocks p answer io h = cc
leaves_queue (OpenName name) n v s blocks p answer io h =
    (open_leaves s p (file_named v name) (free_descriptor s.things p 4 0) blocks).queue
leaves_queue (CloseFd fd) n v s blocks p answer io h =
    (close_leaves s p fd (s.things.file p fd) blocks).queue
leaves_queue (Read fd i off len) n v s blocks p answer io h =
    (read_leaves_processes n v s blocks p fd i off len (s.things.file p fd) answer io).queue
leaves_queue (Write fd i off bytes) n v s blocks p answer io h =
    (write_leaves_processes (file_block v (s.things.file p fd) i off (length bytes)) v s blocks p
    off bytes answer io).queue
leaves_queue Sync n v s blocks p answer io h = (sync_leaves v.frames 0 0 s blocks io).queue
leaves_queue (TakeLock u) n v s blocks p answer io h =
    (take_leaves s p u (s.things.lock u) blocks).queue
leaves_queue (FreeLock u) n v s blocks p answer io h =
    (free_leaves s p u (s.things.lock u) blocks).queue
leaves_queue (Poke k x) n v s blocks p answer io h = refl
leaves_queue (Peek k) n v s blocks p answer io h = refl
leaves_queue (Tune kind k x) n v s blocks p answer io h = (tune_leaves s kind k x blocks).queue
leaves_queue (Choose kind j) n v s blocks p answer io h = refl
leaves_queue (Give r k x) n v s blocks p answer io h =
    ap (λ (w : Things). w.queue) (give_queue s p r k x blocks (lives s.things.queue r))
leaves_queue (Install pt i limit) n v s blocks p answer io h =
    install_queue s p pt (new_graft i limit) (s.accounts.graft p pt) blocks
leaves_queue (Remove pt) n v s blocks p answer io h =
    ap (λ (w : Things). w.queue) (remove_queue s p pt (s.accounts.graft p pt) blocks)
leaves_queue (Fund pt k x) n v s blocks p answer io h =
    ap (λ (w : Things). w.queue) (fund_queue s p pt k x (s.accounts.graft p pt) blocks)
leaves_queue (Bill pt) n v s blocks p answer io h =
    ap (λ (w : Things). w.queue) (bill_queue s p pt (s.accounts.graft p pt) blocks)
-- the calls of other tables are refused
leaves_queue c n v s blocks p answer io h = refl

-- who lives after a piece
pub keeps_living : (c : SysCall) (n : ℕ) (v : World) (s : Objects) (blocks : Blocks) (p : ℕ)
    (answer : Option (List ℕ)) (io : List Bool) →
    KeepsLiving s p (piece_of c n v s blocks p answer io)
keeps_living Spawn n v s blocks p answer io =
    spawn_living s p (free_process s.things.queue 16 0) blocks
keeps_living Exit n v s blocks p answer io = exit_living s p blocks
keeps_living Yield n v s blocks p answer io = yield_living n s p answer blocks
keeps_living c n v s blocks p answer io =
    same_living s p (piece_of c n v s blocks p answer io)
    (leaves_queue c n v s blocks p answer io refl)

-- what slices a piece gives
pub keeps_slices : (c : SysCall) (n : ℕ) (v : World) (s : Objects) (blocks : Blocks) (p : ℕ)
    (answer : Option (List ℕ)) (io : List Bool) →
    IsOnce s.things.queue → KeepsSlices s (piece_of c n v s blocks p answer io)
keeps_slices Spawn n v s blocks p answer io once =
    spawn_slices s (free_process s.things.queue 16 0) blocks
keeps_slices Exit n v s blocks p answer io once = exit_slices s p blocks
keeps_slices Yield n v s blocks p answer io once = yield_slices n s p answer blocks once
keeps_slices c n v s blocks p answer io once =
    same_slices s (piece_of c n v s blocks p answer io)
    (leaves_queue c n v s blocks p answer io refl)
