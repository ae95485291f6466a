-- What the pieces of stream calls keep, and what they do but once: the laws.
use Rattle.std.specs.Prelude.{◌≡◌, ◌≢◌, ℕ, zero, suc, ◌+◌, ◌<◌, ◌≤◌, not, ◌&&◌, Bool, true, false}
use Rattle.std.specs.Prelude.{length, is_some, List, Option, Some, None, Result, Ok, Err}
use Rattle.std.proofs.Common.{arith, refl, ap, sym, subst, ◌∙◌}
use Rattle.kernel_model.specs.declared.QueueRow.{QueueRow}
use Rattle.kernel_model.specs.declared.Refusal.{Refusal}
use Rattle.kernel_model.specs.declared.SysCall.{SysCall}
use Rattle.kernel_model.specs.declared.SysCall.TheVariants.{Read, Write, Sync, StreamRead, StreamWrite}
use Rattle.kernel_model.specs.World.{World, ImageTable, Blocks}
use Rattle.kernel_model.specs.Objects.{Objects, Accounts, GraftValue}
use Rattle.kernel_model.specs.Meaning.{Stage, stage, Answer, Piece, Fails, registers_of}
use Rattle.kernel_model.specs.Needs.{file_block}
use Rattle.kernel_model.specs.Policies.{lives}
use Rattle.kernel_model.specs.Fetch.{Fetched, Got, Failed, fetch}
use Rattle.kernel_model.specs.Sound.{IsSoundStore, ImagesAreLoaded, FitsDisk, HasWholeBlocks}
use Rattle.kernel_model.specs.StreamPoints.{stream_points, stream_taken, stream_fetches, stream_changed, through}
use Rattle.kernel_model.specs.Laws.{PieceLaws, IsReady, continues, slices_in, is_new_graft}
use Rattle.call_laws.specs.SameAccounts.{LeavesProcesses, read_leaves_processes}
use Rattle.call_laws.specs.SoundCaches.{IsSoundCache, cache_of_store}
use Rattle.call_laws.specs.SoundStores.{store_with_cache}
use Rattle.call_laws.specs.StreamPlainStages.{plain_table, plain_laws, at_stage, plain_stage, plain_ready, read_ready}
use Rattle.call_laws.specs.StreamPieces.{first_read, changed_nothing, by_owner}

-- ---- what stays sound

-- the plain read of a stream read
abbrev plain_read : SysCall → World → ImageTable → Objects → Blocks → ℕ → Option Answer →
    List Bool → Piece
plain_read c v images s blocks p answer io =
    plain_table.piece v images s blocks p (stage c 0) answer io

-- a sound store stays sound
keeps_store : (c : SysCall) (n : ℕ) (t : Stage) (v : World) (images : ImageTable) (s : Objects)
    (blocks : Blocks) (p : ℕ) (answer : Option Answer) (io : List Bool) →
    IsReady stream_points v images s p (at_stage c n t) answer → HasWholeBlocks v blocks →
    IsSoundStore v (stream_points.piece v images s blocks p (at_stage c n t) answer io).objects
keeps_store (StreamRead fd i off len) zero t v images s blocks p answer io ready whole =
    let x = plain_read (Read fd i off len) v images s blocks p answer io in
    let sound = plain_laws.piece.store v images s blocks p (stage (Read fd i off len) 0) answer io
    (read_ready fd i off len t v images s p answer ready) whole in
    let queue = (read_leaves_processes 0 v s blocks p fd i off len (s.things.file p fd)
    (registers_of answer) io).queue in
    subst (λ (y : Piece). IsSoundStore v y.objects)
    (sym (first_read fd i off len t v images s blocks p answer io))
    (store_with_cache v s x.objects.things.cache ready.standing.store
    (subst (λ (rows : List QueueRow). IsSoundCache v rows x.objects.things.cache) queue
    (cache_of_store v x.objects sound)))
keeps_store (StreamRead fd i off len) (suc n) t v images s blocks p answer io ready whole =
    ready.standing.store
keeps_store (StreamWrite fd i off given) zero t v images s blocks p answer io ready whole =
    subst (λ (y : Objects). IsSoundStore v y)
    (sym (changed_nothing (file_block v (s.things.file p fd) i off (length given))
    (StreamWrite fd i off given) s blocks (through answer given))) ready.standing.store
keeps_store c n t v images s blocks p answer io ready whole =
    plain_laws.piece.store v images s blocks p (plain_stage c n t) answer io
    (plain_ready c n t v images s p answer refl ready) whole

-- what fits the disk still fits
keeps_disk : (c : SysCall) (n : ℕ) (t : Stage) (v : World) (images : ImageTable) (s : Objects)
    (blocks : Blocks) (p : ℕ) (answer : Option Answer) (io : List Bool) →
    IsReady stream_points v images s p (at_stage c n t) answer →
    FitsDisk v
    (stream_points.piece v images s blocks p (at_stage c n t) answer io).objects.things.cache
keeps_disk (StreamRead fd i off len) zero t v images s blocks p answer io ready =
    subst (λ (y : Piece). FitsDisk v y.objects.things.cache)
    (sym (first_read fd i off len t v images s blocks p answer io))
    (plain_laws.piece.disk v images s blocks p (stage (Read fd i off len) 0) answer io
    (read_ready fd i off len t v images s p answer ready))
keeps_disk (StreamRead fd i off len) (suc n) t v images s blocks p answer io ready = ready.disk
keeps_disk (StreamWrite fd i off given) zero t v images s blocks p answer io ready =
    subst (λ (y : Objects). FitsDisk v y.things.cache)
    (sym (changed_nothing (file_block v (s.things.file p fd) i off (length given))
    (StreamWrite fd i off given) s blocks (through answer given))) ready.disk
keeps_disk c n t v images s blocks p answer io ready =
    plain_laws.piece.disk v images s blocks p (plain_stage c n t) answer io
    (plain_ready c n t v images s p answer refl ready)

-- the first piece of a write leaves the disk's blocks
changed_blocks : (r : Result ℕ Refusal) (c : SysCall) (s : Objects) (blocks : Blocks)
    (out : List ℕ) → (stream_changed r c s blocks out).blocks ≡ blocks
changed_blocks (Err why) c s blocks out = refl
changed_blocks (Ok b) c s blocks out = refl

-- blocks stay whole
keeps_whole : (c : SysCall) (n : ℕ) (t : Stage) (v : World) (images : ImageTable) (s : Objects)
    (blocks : Blocks) (p : ℕ) (answer : Option Answer) (io : List Bool) →
    IsReady stream_points v images s p (at_stage c n t) answer → HasWholeBlocks v blocks →
    HasWholeBlocks v (stream_points.piece v images s blocks p (at_stage c n t) answer io).blocks
keeps_whole (StreamRead fd i off len) zero t v images s blocks p answer io ready whole =
    subst (λ (y : Piece). HasWholeBlocks v y.blocks)
    (sym (first_read fd i off len t v images s blocks p answer io))
    (plain_laws.piece.whole_blocks v images s blocks p (stage (Read fd i off len) 0) answer io
    (read_ready fd i off len t v images s p answer ready) whole)
keeps_whole (StreamRead fd i off len) (suc n) t v images s blocks p answer io ready whole = whole
keeps_whole (StreamWrite fd i off given) zero t v images s blocks p answer io ready whole =
    subst (λ (y : Blocks). HasWholeBlocks v y)
    (sym (changed_blocks (file_block v (s.things.file p fd) i off (length given))
    (StreamWrite fd i off given) s blocks (through answer given))) whole
keeps_whole c n t v images s blocks p answer io ready whole =
    plain_laws.piece.whole_blocks v images s blocks p (plain_stage c n t) answer io
    (plain_ready c n t v images s p answer refl ready) whole

-- ---- refusals

-- a piece leaves the state and the disk's blocks
abbrev LeavesAll : Objects → Blocks → Piece → Type 0
LeavesAll s blocks x = (x.objects ≡ s) × (x.blocks ≡ blocks)

-- a read whose call of the disk failed
taken_refused : (c : SysCall) (s : Objects) (blocks : Blocks) (off len : ℕ) (x : Fetched)
    (why : Refusal) → (stream_taken c s blocks off len x).after ≡ Fails why →
    LeavesAll s blocks (stream_taken c s blocks off len x)
taken_refused c s blocks off len (Failed calls) why e = (refl, refl)
taken_refused c s blocks off len (Got cache after frame calls) why e = cc

-- a read that is refused
read_refused : (r : Result ℕ Refusal) (c : SysCall) (v : World) (s : Objects) (blocks : Blocks)
    (p off len : ℕ) (answer : Option Answer) (io : List Bool) (why : Refusal) →
    (stream_fetches r c v s blocks p off len answer io).after ≡ Fails why →
    LeavesAll s blocks (stream_fetches r c v s blocks p off len answer io)
read_refused (Err refusal) c v s blocks p off len answer io why e = (refl, refl)
read_refused (Ok b) c v s blocks p off len answer io why e =
    taken_refused c s blocks off len
    (fetch v (s.things.pol 1) p b (registers_of answer) s.things.cache blocks io) why e

-- a piece that is refused
refused_leaves : (c : SysCall) (n : ℕ) (t : Stage) (v : World) (images : ImageTable) (s : Objects)
    (blocks : Blocks) (p : ℕ) (answer : Option Answer) (io : List Bool) (why : Refusal) →
    c ≢ Sync →
    (stream_points.piece v images s blocks p (at_stage c n t) answer io).after ≡ Fails why →
    LeavesAll s blocks (stream_points.piece v images s blocks p (at_stage c n t) answer io)
refused_leaves (StreamRead fd i off len) zero t v images s blocks p answer io why ne e =
    read_refused (file_block v (s.things.file p fd) i off len) (StreamRead fd i off len) v s blocks
    p off len answer io why e
refused_leaves (StreamRead fd i off len) (suc n) t v images s blocks p answer io why ne e = cc
refused_leaves (StreamWrite fd i off given) zero t v images s blocks p answer io why ne e =
    let r = file_block v (s.things.file p fd) i off (length given) in
    let c = StreamWrite fd i off given in (
      changed_nothing r c s blocks (through answer given),
      changed_blocks r c s blocks (through answer given),
    )
refused_leaves (StreamWrite fd i off given) (suc n) t v images s blocks p answer io why ne e =
    plain_laws.piece.refused v images s blocks p (stage (Write fd i off t.bytes) 0) answer io why
    (λ same. cc) e
refused_leaves c n t v images s blocks p answer io why ne e =
    plain_laws.piece.refused v images s blocks p (plain_stage c n t) answer io why ne e

-- ---- grafts, accounts and processes

-- where the accounts are the same no graft is new
none_new : (s : Objects) (x : Piece) (q pt : ℕ) → LeavesProcesses s x →
    is_new_graft s x.objects q pt ≡ true → ⊥
none_new s x q pt leaves new =
    stands_or_not (s.accounts.graft q pt)
    (subst (λ (a : Accounts). (not (is_some (s.accounts.graft q pt)) && is_some (a.graft q pt))
    ≡ true) leaves.accounts new)
  where
    -- a graft stands or it doesn't
    stands_or_not : (g : Option GraftValue) → (not (is_some g) && is_some g) ≡ true → ⊥
    stands_or_not None e = absurd cc
    stands_or_not (Some g) e = absurd cc

-- where the queue is the same there are as many slices
same_slices : (s : Objects) (x : Piece) → LeavesProcesses s x →
    slices_in x.objects.things.queue ≡ slices_in s.things.queue
same_slices s x leaves = ap slices_in leaves.queue

-- and the same processes live
same_lives : (s : Objects) (x : Piece) (q : ℕ) → LeavesProcesses s x →
    lives x.objects.things.queue q ≡ lives s.things.queue q
same_lives s x q leaves = ap (λ rows. lives rows q) leaves.queue

-- The laws of what pieces keep hold of the calls of stream points.
pub pieces_of_streams : PieceLaws stream_points
pieces_of_streams = record {
  store = λ v images s blocks p t answer io ready whole.
      keeps_store t.call t.piece t v images s blocks p answer io ready whole;
  images_loaded = λ v images s blocks p t answer io ready loaded.
      by_owner (λ x. ImagesAreLoaded images x.objects.accounts) t.call t.piece t v images s blocks p
      answer io (λ x leaves. subst (ImagesAreLoaded images) (sym leaves.accounts) loaded)
      (λ other. plain_laws.piece.images_loaded v images s blocks p
      (plain_stage t.call t.piece t) answer io
      (plain_ready t.call t.piece t v images s p answer other ready) loaded);
  disk = λ v images s blocks p t answer io ready.
      keeps_disk t.call t.piece t v images s blocks p answer io ready;
  refused = λ v images s blocks p t answer io why ne e.
      refused_leaves t.call t.piece t v images s blocks p answer io why ne e;
  whole_blocks = λ v images s blocks p t answer io ready whole.
      keeps_whole t.call t.piece t v images s blocks p answer io ready whole;
  others_live = λ v images s blocks p q t answer io ready ne alive.
      by_owner (λ x. lives x.objects.things.queue q ≡ true) t.call t.piece t v images s blocks p
      answer io (λ x leaves. same_lives s x q leaves ∙ alive)
      (λ other. plain_laws.piece.others_live v images s blocks p q (plain_stage t.call t.piece t)
      answer io (plain_ready t.call t.piece t v images s p answer other ready) ne alive);
  caller_lives = λ v images s blocks p t answer io ready.
      by_owner (λ x. continues x.after ≡ true → lives x.objects.things.queue p ≡ true) t.call
      t.piece t v images s blocks p answer io
      (λ x leaves goes. same_lives s x p leaves ∙ ready.standing.caller)
      (λ other. plain_laws.piece.caller_lives v images s blocks p (plain_stage t.call t.piece t)
      answer io (plain_ready t.call t.piece t v images s p answer other ready));
  one_graft = λ v images s blocks p t answer io q pt r pu ready.
      by_owner (λ x. is_new_graft s x.objects q pt ≡ true → is_new_graft s x.objects r pu ≡ true →
      (q ≡ r) × (pt ≡ pu)) t.call t.piece t v images s blocks p answer io
      (λ x leaves new. absurd (none_new s x q pt leaves new))
      (λ other. plain_laws.piece.one_graft v images s blocks p (plain_stage t.call t.piece t) answer
      io q pt r pu (plain_ready t.call t.piece t v images s p answer other ready));
  graft_ends = λ v images s blocks p t answer io q pt ready.
      by_owner (λ x. is_new_graft s x.objects q pt ≡ true → continues x.after ≡ false) t.call
      t.piece t v images s blocks p answer io
      (λ x leaves new. absurd (none_new s x q pt leaves new))
      (λ other. plain_laws.piece.graft_ends v images s blocks p (plain_stage t.call t.piece t)
      answer io q pt (plain_ready t.call t.piece t v images s p answer other ready));
  one_slice = λ v images s blocks p t answer io ready.
      by_owner (λ x. slices_in x.objects.things.queue ≤ slices_in s.things.queue + 1) t.call t.piece
      t v images s blocks p answer io
      (λ x leaves. let same = same_slices s x leaves in omega (arith, same))
      (λ other. plain_laws.piece.one_slice v images s blocks p (plain_stage t.call t.piece t) answer
      io (plain_ready t.call t.piece t v images s p answer other ready));
  slice_ends = λ v images s blocks p t answer io ready.
      by_owner (λ x. slices_in s.things.queue < slices_in x.objects.things.queue →
      continues x.after ≡ false) t.call t.piece t v images s blocks p answer io
      (λ x leaves more. absurd (let same = same_slices s x leaves in omega (arith, same, more)))
      (λ other. plain_laws.piece.slice_ends v images s blocks p (plain_stage t.call t.piece t)
      answer io (plain_ready t.call t.piece t v images s p answer other ready));
}
