-- A piece that is refused leaves the state and the disk as they were, but for a `sync`.
use Rattle.std.specs.Prelude.{◌≡◌, ◌≢◌, ℕ, zero, suc, ◌-◌, Bool, true, false, nat_lt, ◌==◌, List}
use Rattle.std.specs.Prelude.{length, Option, Some, None, Result, Ok, Err}
use Rattle.std.proofs.Common.{refl, subst, sym}
use Rattle.kernel_model.specs.declared.Kind.{Kind}
use Rattle.kernel_model.specs.declared.Refusal.{Refusal}
use Rattle.kernel_model.specs.declared.Refusal.TheVariants.{BadPoint, BadIndex, NotHeld, Short}
use Rattle.kernel_model.specs.declared.SysCall.{SysCall}
use Rattle.kernel_model.specs.declared.SysCall.TheVariants.{Spawn, Exit, Yield, OpenName, CloseFd}
use Rattle.kernel_model.specs.declared.SysCall.TheVariants.{Read, Write, Sync, TakeLock, FreeLock}
use Rattle.kernel_model.specs.declared.SysCall.TheVariants.{Poke, Peek, Tune, Choose, Give, Install}
use Rattle.kernel_model.specs.declared.SysCall.TheVariants.{Remove, Fund, Bill}
use Rattle.kernel_model.specs.declared.OpenRow.{OpenRow}
use Rattle.kernel_model.specs.World.{World, Blocks, file_named}
use Rattle.kernel_model.specs.Objects.{Objects, GraftValue, with_accounts, with_things}
use Rattle.kernel_model.specs.Policies.{ahead_default, lives}
use Rattle.kernel_model.specs.Access.{param_top, in_range, set_param}
use Rattle.kernel_model.specs.Meaning.{Stage, stage, Piece, After, Fails}
use Rattle.kernel_model.specs.Needs.{free_process, file_block, ahead_block}
use Rattle.kernel_model.specs.Fetch.{Fetched, Got, Failed, fetch, fetch_ahead}
use Rattle.kernel_model.specs.FilePieces.{leaves, refuses, well, unless_zero, free_descriptor}
use Rattle.kernel_model.specs.FilePieces.{open_piece, close_piece, read_first, read_second}
use Rattle.kernel_model.specs.FilePieces.{read_third, ahead_by, read_first_at, read_third_at}
use Rattle.kernel_model.specs.FilePieces.{read_piece, write_fetched, write_piece}
use Rattle.kernel_model.specs.Pieces.{spawn_piece, yield_piece, lock_piece, unlock_piece}
use Rattle.kernel_model.specs.Pieces.{with_holder, tune_piece, pay_piece, give_piece, new_graft}
use Rattle.kernel_model.specs.Pieces.{install_piece, remove_piece, accounts_funded, fund_piece}
use Rattle.kernel_model.specs.Pieces.{bill_piece, piece_of}

-- a call that is refused
abbrev pub is_refusal : After → Bool
is_refusal (Fails why) = true
is_refusal _ = false

-- a piece leaves the state and the disk as they were, if it is refused
abbrev pub KeepsAll : Objects → Blocks → Piece → Type 0
KeepsAll s blocks a = is_refusal a.after ≡ true → (a.objects ≡ s) × (a.blocks ≡ blocks)

module _ (s : Objects) (blocks : Blocks) where
  -- a piece that isn't refused
  granted : (a : Piece) → is_refusal a.after ≡ false → KeepsAll s blocks a
  granted a e h = absurd cc

  -- one that is, and leaves all as it was
  kept : (why : Refusal) → KeepsAll s blocks (refuses s blocks why)
  kept why = λ h. (refl, refl)

  -- by a test
  either : (b : Bool) (one other : Piece) → KeepsAll s blocks one → KeepsAll s blocks other →
      KeepsAll s blocks (elim b as (λ _. Piece) [ true ↦ one | false ↦ other ])
  either true one other h k = h
  either false one other h k = k

  spawn_keeps : (c : Option ℕ) → KeepsAll s blocks (spawn_piece s c blocks)
  spawn_keeps None = λ h. (refl, refl)
  spawn_keeps (Some c) = granted (spawn_piece s (Some c) blocks) refl

  yield_keeps : (n p : ℕ) (answer : Option (List ℕ)) →
      KeepsAll s blocks (yield_piece n s p answer blocks)
  yield_keeps zero p answer = granted (yield_piece 0 s p answer blocks) refl
  yield_keeps (suc n) p answer = granted (yield_piece (suc n) s p answer blocks) refl

  open_keeps : (p : ℕ) (file fd : Option ℕ) → KeepsAll s blocks (open_piece s p file fd blocks)
  open_keeps p None fd = λ h. (refl, refl)
  open_keeps p (Some n) None = λ h. (refl, refl)
  open_keeps p (Some n) (Some fd) = granted (open_piece s p (Some n) (Some fd) blocks) refl

  close_keeps : (p fd : ℕ) (o : Option OpenRow) → KeepsAll s blocks (close_piece s p fd o blocks)
  close_keeps p fd None = λ h. (refl, refl)
  close_keeps p fd (Some o) = granted (close_piece s p fd (Some o) blocks) refl

  -- ---- reads and writes

  -- how a read goes on is no refusal
  on_granted : (t : Stage) (n : ℕ) → is_refusal (unless_zero t n) ≡ false
  on_granted t zero = refl
  on_granted t (suc n) = refl

  first_keeps : (p fd i off len : ℕ) (o : OpenRow) (x : Fetched) →
      KeepsAll s blocks (read_first s blocks p fd i off len o x)
  first_keeps p fd i off len o (Failed calls) = λ h. (refl, refl)
  first_keeps p fd i off len o (Got cache after frame calls) =
      granted (read_first s blocks p fd i off len o (Got cache after frame calls)) refl

  third_keeps : (p fd i off len : ℕ) (o : OpenRow) (x : Fetched) →
      KeepsAll s blocks (read_third s blocks p fd i off len o x)
  third_keeps p fd i off len o (Failed calls) = λ h. (refl, refl)
  third_keeps p fd i off len o (Got cache after frame calls) =
      granted (read_third s blocks p fd i off len o (Got cache after frame calls))
      (on_granted (stage (Read fd i off len) 2) (o.count - 1))

  first_at_keeps : (r : Result ℕ Refusal) (v : World) (p fd i off len : ℕ) (o : OpenRow)
      (answer : Option (List ℕ)) (io : List Bool) →
      KeepsAll s blocks (read_first_at r v s blocks p fd i off len o answer io)
  first_at_keeps (Err why) v p fd i off len o answer io = λ h. (refl, refl)
  first_at_keeps (Ok b) v p fd i off len o answer io =
      first_keeps p fd i off len o (fetch v (s.things.pol 1) p b answer s.things.cache blocks io)

  third_at_keeps : (r : Result ℕ Refusal) (v : World) (p fd i off len : ℕ) (o : OpenRow)
      (answer : Option (List ℕ)) (io : List Bool) →
      KeepsAll s blocks (read_third_at r v s blocks p fd i off len o answer io)
  third_at_keeps (Err why) v p fd i off len o answer io = λ h. (refl, refl)
  third_at_keeps (Ok b) v p fd i off len o answer io =
      third_keeps p fd i off len o
      (fetch_ahead v (s.things.pol 1) p b answer s.things.cache blocks io)

  read_keeps : (n : ℕ) (v : World) (p fd i off len : ℕ) (o : Option OpenRow)
      (answer : Option (List ℕ)) (io : List Bool) →
      KeepsAll s blocks (read_piece n v s blocks p fd i off len o answer io)
  read_keeps n v p fd i off len None answer io = λ h. (refl, refl)
  read_keeps zero v p fd i off len (Some o) answer io =
      first_at_keeps (file_block v (Some o) i off len) v p fd i off len o answer io
  read_keeps (suc zero) v p fd i off len (Some o) answer io =
      let ahead = ahead_by answer (ahead_default v (s.things.pol 0) (Some o)) in
      granted (read_second s blocks p fd i off len o ahead)
      (on_granted (stage (Read fd i off len) 2) ahead.1)
  read_keeps (suc (suc n)) v p fd i off len (Some o) answer io =
      third_at_keeps (ahead_block v (Some o)) v p fd i off len o answer io

  patch_keeps : (off : ℕ) (new : List ℕ) (x : Fetched) →
      KeepsAll s blocks (write_fetched s blocks off new x)
  patch_keeps off new (Failed calls) = λ h. (refl, refl)
  patch_keeps off new (Got cache after frame calls) =
      granted (write_fetched s blocks off new (Got cache after frame calls)) refl

  write_keeps : (r : Result ℕ Refusal) (v : World) (p off : ℕ) (new : List ℕ)
      (answer : Option (List ℕ)) (io : List Bool) →
      KeepsAll s blocks (write_piece r v s blocks p off new answer io)
  write_keeps (Err why) v p off new answer io = λ h. (refl, refl)
  write_keeps (Ok b) v p off new answer io =
      patch_keeps off new (fetch v (s.things.pol 1) p b answer s.things.cache blocks io)

  -- ---- the others

  lock_keeps : (p u : ℕ) (holder : Option ℕ) → KeepsAll s blocks (lock_piece s p u holder blocks)
  lock_keeps p u (Some h) = λ h. (refl, refl)
  lock_keeps p u None = granted (lock_piece s p u None blocks) refl

  unlock_keeps : (p u : ℕ) (holder : Option ℕ) →
      KeepsAll s blocks (unlock_piece s p u holder blocks)
  unlock_keeps p u None = λ h. (refl, refl)
  unlock_keeps p u (Some h) =
      either (h == p) (leaves (with_holder u None s) blocks well) (refuses s blocks NotHeld)
      (granted (leaves (with_holder u None s) blocks well) refl) (kept NotHeld)

  tune_keeps : (kind k x : ℕ) → KeepsAll s blocks (tune_piece s kind k x blocks)
  tune_keeps kind k x =
      let done = leaves (with_things (set_param kind x s.things) s) blocks well in
      either (in_range (param_top kind (s.things.pol kind).chosen) k x) done
      (refuses s blocks BadIndex) (granted done refl) (kept BadIndex)

  pay_keeps : (p q : ℕ) (k : Kind) (n : ℕ) (short : Bool) →
      KeepsAll s blocks (pay_piece s p q k n blocks short)
  pay_keeps p q k n true = λ h. (refl, refl)
  pay_keeps p q k n false = granted (pay_piece s p q k n blocks false) refl

  give_keeps : (p q : ℕ) (k : Kind) (n : ℕ) (alive : Bool) →
      KeepsAll s blocks (give_piece s p q k n blocks alive)
  give_keeps p q k n false = λ h. (refl, refl)
  give_keeps p q k n true = pay_keeps p q k n (nat_lt ((s.accounts.acct p).balance k) n)

  install_keeps : (p pt : ℕ) (new : GraftValue) (old : Option GraftValue) →
      KeepsAll s blocks (install_piece s p pt new old blocks)
  install_keeps p pt new (Some g) = λ h. (refl, refl)
  install_keeps p pt new None = granted (install_piece s p pt new None blocks) refl

  remove_keeps : (p pt : ℕ) (old : Option GraftValue) →
      KeepsAll s blocks (remove_piece s p pt old blocks)
  remove_keeps p pt None = λ h. (refl, refl)
  remove_keeps p pt (Some g) = granted (remove_piece s p pt (Some g) blocks) refl

  fund_keeps : (p pt : ℕ) (k : Kind) (n : ℕ) (old : Option GraftValue) →
      KeepsAll s blocks (fund_piece s p pt k n old blocks)
  fund_keeps p pt k n None = λ h. (refl, refl)
  fund_keeps p pt k n (Some g) =
      let why = Short ((s.accounts.acct p).balance k) in
      let done = leaves (with_accounts (accounts_funded p pt k n g s.accounts) s) blocks well in
      either (nat_lt ((s.accounts.acct p).balance k) n) (refuses s blocks why) done (kept why)
      (granted done refl)

  bill_keeps : (p pt : ℕ) (old : Option GraftValue) →
      KeepsAll s blocks (bill_piece s p pt old blocks)
  bill_keeps p pt None = λ h. (refl, refl)
  bill_keeps p pt (Some g) = granted (bill_piece s p pt (Some g) blocks) refl

  -- ---- all of them

  -- a piece that is refused leaves all as it was, but for a `sync`
  piece_keeps : (c : SysCall) (n : ℕ) (v : World) (p : ℕ) (answer : Option (List ℕ))
      (io : List Bool) → c ≢ Sync →
      KeepsAll s blocks (piece_of c n v s blocks p answer io)
  piece_keeps Spawn n v p answer io ne = spawn_keeps (free_process s.things.queue 16 0)
  piece_keeps Exit n v p answer io ne = granted (piece_of Exit n v s blocks p answer io) refl
  piece_keeps Yield n v p answer io ne = yield_keeps n p answer
  piece_keeps (OpenName name) n v p answer io ne =
      open_keeps p (file_named v name) (free_descriptor s.things p 4 0)
  piece_keeps (CloseFd fd) n v p answer io ne = close_keeps p fd (s.things.file p fd)
  piece_keeps (Read fd i off len) n v p answer io ne =
      read_keeps n v p fd i off len (s.things.file p fd) answer io
  piece_keeps (Write fd i off bytes) n v p answer io ne =
      write_keeps (file_block v (s.things.file p fd) i off (length bytes)) v p off bytes answer io
  piece_keeps Sync n v p answer io ne = absurd (ne refl)
  piece_keeps (TakeLock u) n v p answer io ne = lock_keeps p u (s.things.lock u)
  piece_keeps (FreeLock u) n v p answer io ne = unlock_keeps p u (s.things.lock u)
  piece_keeps (Poke k x) n v p answer io ne =
      granted (piece_of (Poke k x) n v s blocks p answer io) refl
  piece_keeps (Peek k) n v p answer io ne =
      granted (piece_of (Peek k) n v s blocks p answer io) refl
  piece_keeps (Tune kind k x) n v p answer io ne = tune_keeps kind k x
  piece_keeps (Choose kind j) n v p answer io ne =
      granted (piece_of (Choose kind j) n v s blocks p answer io) refl
  piece_keeps (Give q k x) n v p answer io ne = give_keeps p q k x (lives s.things.queue q)
  piece_keeps (Install pt i limit) n v p answer io ne =
      install_keeps p pt (new_graft i limit) (s.accounts.graft p pt)
  piece_keeps (Remove pt) n v p answer io ne = remove_keeps p pt (s.accounts.graft p pt)
  piece_keeps (Fund pt k x) n v p answer io ne = fund_keeps p pt k x (s.accounts.graft p pt)
  piece_keeps (Bill pt) n v p answer io ne = bill_keeps p pt (s.accounts.graft p pt)
  -- the calls of other tables are refused
  piece_keeps c n v p answer io ne = kept BadPoint

-- the same by the refusal
pub refused_by : (c : SysCall) (n : ℕ) (v : World) (s : Objects) (blocks : Blocks) (p : ℕ)
    (answer : Option (List ℕ)) (io : List Bool) (why : Refusal) →
    c ≢ Sync → (piece_of c n v s blocks p answer io).after ≡ Fails why →
    ((piece_of c n v s blocks p answer io).objects ≡ s)
    × ((piece_of c n v s blocks p answer io).blocks ≡ blocks)
refused_by c n v s blocks p answer io why ne e =
    piece_keeps s blocks c n v p answer io ne (subst (λ a. is_refusal a ≡ true) (sym e) refl)
