-- What each piece of a system call does to what is seen of blocks.
use Rattle.std.specs.Prelude.{◌≡◌, ℕ, zero, suc, ◌+◌, Bool, true, false, cond}
use Rattle.std.specs.Prelude.{nat_lt, List, []}
use Rattle.std.specs.Prelude.{◌∷◌, length, slice_range, option_map, Option, Some, None, Result, Ok, Err}
use Rattle.std.proofs.Common.{arith, refl, sym, ap, subst, ◌∙◌, inl, inr}
use Rattle.script_model.specs.declared.OpenRow.{OpenRow}
use Rattle.script_model.specs.declared.Refusal.{Refusal}
use Rattle.script_model.specs.declared.Refusal.TheVariants.{BadFd, DiskFault, PortFull, Short}
use Rattle.script_model.specs.declared.SysCall.{SysCall}
use Rattle.script_model.specs.declared.SysCall.TheVariants.{Spawn, Exit, Yield, OpenName, CloseFd}
use Rattle.script_model.specs.declared.SysCall.TheVariants.{Read, Write, Sync, TakeLock, FreeLock}
use Rattle.script_model.specs.declared.SysCall.TheVariants.{Poke, Peek, Tune, Choose, Give, Install}
use Rattle.script_model.specs.declared.SysCall.TheVariants.{Remove, Fund, Bill, Serve, StreamRead}
use Rattle.script_model.specs.declared.SysCall.TheVariants.{StreamWrite}
use Rattle.script_model.specs.World.{World, ImageTable, Blocks, file_named}
use Rattle.script_model.specs.Objects.{Objects, CacheValue, FrameValue, GraftValue, with_accounts}
use Rattle.script_model.specs.Alike.{markless}
use Rattle.script_model.specs.AllCalls.{all_calls}
use Rattle.script_model.specs.EventPoints.{is_event_call, event_points, event_piece, handler_joins, handler_leaves}
use Rattle.script_model.specs.EventPoints.{serve_piece, with_handlers}
use Rattle.script_model.specs.Fetch.{Fetched, Got, Failed, fetch, fetch_ahead, bytes_of, with_patch, dirty_value}
use Rattle.script_model.specs.FilePieces.{leaves, refuses, well, free_descriptor, open_piece, close_piece}
use Rattle.script_model.specs.FilePieces.{read_piece, read_first, read_third, read_first_at, read_third_at}
use Rattle.script_model.specs.FilePieces.{write_fetched, write_piece, sync_from}
use Rattle.script_model.specs.Handlers.{has_room, handlers_with}
use Rattle.script_model.specs.Laws.{Laws}
use Rattle.script_model.specs.Meaning.{Stage, Answer, Piece, Continues, Fails, registers_of}
use Rattle.script_model.specs.Pieces.{plain_calls, piece_of, handed_over, spawn_piece, yield_piece, exit_piece}
use Rattle.script_model.specs.Pieces.{lock_piece, unlock_piece, tune_piece, give_piece, pay_piece, install_piece}
use Rattle.script_model.specs.Pieces.{remove_piece, fund_piece, bill_piece, new_graft, with_new_graft, accounts_funded}
use Rattle.script_model.specs.Policies.{lives}
use Rattle.script_model.specs.Sound.{IsSoundStore, FitsDisk, HasWholeBlocks}
use Rattle.script_model.specs.StreamPoints.{is_stream_call, stream_points, stream_piece, stream_read_piece}
use Rattle.script_model.specs.StreamPoints.{stream_write_piece, stream_fetches, stream_taken, stream_changed, through}
use Rattle.kernel_model.specs.Beside.{beside}
use Rattle.kernel_model.specs.Needs.{free_process, file_block, ahead_block}
use Rattle.call_laws.specs.BesideLaws.{laws_of_beside}
use Rattle.call_laws.specs.EventLaws.{laws_of_event_points}
use Rattle.call_laws.specs.FetchCases.{AllGot}
use Rattle.call_laws.specs.FetchedFrames.{NamesBlock, fetch_names}
use Rattle.call_laws.specs.PlainLaws.{laws_of_plain}
use Rattle.call_laws.specs.SoundCaches.{IsSoundCache, cache_of_store}
use Rattle.call_laws.specs.SoundFiles.{file_block_is}
use Rattle.call_laws.specs.StreamLaws.{laws_of_stream_points}
use Rattle.call_laws.specs.Syncs.{dirty_in_use}
use Rattle.session_laws.specs.Syncs.{IsWrittenBack, WritesBackAlone}
use Rattle.session_laws.proofs.SyncLemmas.{syncs_write_back_alone}
use Rattle.run_laws.specs.Seen.{seen_block, IsCoherent, ShowsPut, WritesSeen, Put}
use Rattle.run_laws.specs.Seen.{put_of, put_by, KeepsShown}
use Rattle.run_laws.specs.Seen.{PiecesKeepShown}
use Rattle.run_laws.proofs.SeenLemmas.{IsNowhere, seen_held, seen_nowhere, Shown, shows_same, shown_self, fetch_shown}
use Rattle.run_laws.proofs.SeenLemmas.{ahead_shown, frame_seen, patch_shown}

-- the laws of all calls
pub laws_of_all_calls : Laws all_calls
laws_of_all_calls =
    laws_of_beside is_stream_call stream_points (beside is_event_call event_points plain_calls) laws_of_stream_points
    (laws_of_beside is_event_call event_points plain_calls laws_of_event_points laws_of_plain)

-- ---- frames that differ in owners and marks

-- what is seen of a frame, and whether it is dirty
pub record Core : Type 0 where
  pub block : ℕ
  pub dirty : Bool
  pub bytes : List ℕ

abbrev pub core_of : Option FrameValue → Option Core
core_of x = option_map (λ (f : FrameValue). record { block = f.block; dirty = f.dirty; bytes = f.bytes }) x

-- a frame with the core of another that is in use
core_found : (x : FrameValue) (y : Option FrameValue) → core_of (Some x) ≡ core_of y →
    (old : FrameValue) × (y ≡ Some old) × (old.block ≡ x.block) × (old.dirty ≡ x.dirty) × (old.bytes ≡ x.bytes)
core_found x None e = absurd (nothing e)
  where
    nothing : {A : Type 0} {a : A} → Some a ≡ None → ⊥
    nothing e = cc
core_found x (Some old) e =
    let same = core_is (record { block = x.block; dirty = x.dirty; bytes = x.bytes })
    (record { block = old.block; dirty = old.dirty; bytes = old.bytes }) e in (
      old,
      refl,
      sym (ap (λ (c : Core). c.block) same),
      sym (ap (λ (c : Core). c.dirty) same),
      sym (ap (λ (c : Core). c.bytes) same),
    )
  where
    core_is : (a b : Core) → Some a ≡ Some b → a ≡ b
    core_is a b e = cc

pub cores_shown : (v : World) (s : Objects) (blocks : Blocks) (e : CacheValue) → IsSoundStore v s →
    IsCoherent s.things.cache blocks →
    ((f : ℕ) → core_of (e.frame f) ≡ core_of (s.things.cache.frame f)) → Shown s.things.cache blocks e blocks
cores_shown v s blocks e sound coherent same =
    record {
      in_frames = λ f x is.
          let old = there f x is in
          sym old.4 ∙ sym (seen_held v s.things.queue c (cache_of_store v s sound) blocks f old.0 old.1)
          ∙ ap (seen_block c blocks) old.2;
      elsewhere = λ b none. sym (seen_nowhere v s.things.queue c (cache_of_store v s sound) blocks b
          (λ f x is block. let new = back f x is in none f new.0 new.1 (new.2 ∙ block)));
      coherent = λ f x is clean.
          let old = there f x is in
          ap blocks (sym old.2) ∙ coherent f old.0 old.1 (old.3 ∙ clean) ∙ old.4;
      disk = λ b. inl refl;
    }
  where
    c : CacheValue
    c = s.things.cache

    there : (f : ℕ) (x : FrameValue) → e.frame f ≡ Some x → (old : FrameValue) × (c.frame f ≡ Some old)
        × (old.block ≡ x.block) × (old.dirty ≡ x.dirty) × (old.bytes ≡ x.bytes)
    there f x is = core_found x (c.frame f) (sym (ap core_of is) ∙ same f)

    back : (f : ℕ) (x : FrameValue) → c.frame f ≡ Some x → (new : FrameValue) × (e.frame f ≡ Some new)
        × (new.block ≡ x.block) × (new.dirty ≡ x.dirty) × (new.bytes ≡ x.bytes)
    back f x is = core_found x (e.frame f) (sym (ap core_of is) ∙ sym (same f))

-- frames without their marks tell their cores
pub markless_core : (x y : Option FrameValue) → markless x ≡ markless y → core_of y ≡ core_of x
markless_core x y e = sym (unmarked y) ∙ sym (ap core_of e) ∙ unmarked x
  where
    unmarked : (z : Option FrameValue) → core_of (markless z) ≡ core_of z
    unmarked None = refl
    unmarked (Some f) = refl

handed_core : (p q : ℕ) (x : Option FrameValue) → core_of (handed_over p q x) ≡ core_of x
handed_core p q None = refl
handed_core p q (Some f) = refl

-- ---- which calls

abbrev is_read : SysCall → Bool
is_read (Read fd i off len) = true
is_read c = false

abbrev is_sread : SysCall → Bool
is_sread (StreamRead fd i off len) = true
is_sread c = false

true_false : {A : Type 0} → true ≡ false → A
true_false e = absurd (bad e)
  where
    bad : true ≡ false → ⊥
    bad e = cc

put_is : (a b : Put) → Some a ≡ Some b → a ≡ b
put_is a b e = cc

none_put : (w : Put) → None ≡ Some w → ⊥
none_put w e = cc

-- ---- pieces that leave the cache and the disk

abbrev Leaves : Objects → Blocks → Piece → Type 0
Leaves s blocks q = (q.objects.things.cache ≡ s.things.cache) × (q.blocks ≡ blocks)

spawn_leaves : (s : Objects) (x : Option ℕ) (blocks : Blocks) → Leaves s blocks (spawn_piece s x blocks)
spawn_leaves s None blocks = (refl, refl)
spawn_leaves s (Some c) blocks = (refl, refl)

yield_leaves : (n : ℕ) (s : Objects) (p : ℕ) (answer : Option (List ℕ)) (blocks : Blocks) →
    Leaves s blocks (yield_piece n s p answer blocks)
yield_leaves zero s p answer blocks = (refl, refl)
yield_leaves (suc n) s p answer blocks = (refl, refl)

open_leaves : (s : Objects) (p : ℕ) (file fd : Option ℕ) (blocks : Blocks) →
    Leaves s blocks (open_piece s p file fd blocks)
open_leaves s p None fd blocks = (refl, refl)
open_leaves s p (Some n) None blocks = (refl, refl)
open_leaves s p (Some n) (Some fd) blocks = (refl, refl)

close_leaves : (s : Objects) (p fd : ℕ) (o : Option OpenRow) (blocks : Blocks) →
    Leaves s blocks (close_piece s p fd o blocks)
close_leaves s p fd None blocks = (refl, refl)
close_leaves s p fd (Some o) blocks = (refl, refl)

take_leaves : (s : Objects) (p u : ℕ) (h : Option ℕ) (blocks : Blocks) → Leaves s blocks (lock_piece s p u h blocks)
take_leaves s p u None blocks = (refl, refl)
take_leaves s p u (Some h) blocks = (refl, refl)

free_leaves : (s : Objects) (p u : ℕ) (h : Option ℕ) (blocks : Blocks) → Leaves s blocks (unlock_piece s p u h blocks)
free_leaves s p u None blocks = (refl, refl)
free_leaves s p u (Some h) blocks = grind arith

tune_leaves : (s : Objects) (kind k x : ℕ) (blocks : Blocks) → Leaves s blocks (tune_piece s kind k x blocks)
tune_leaves s kind k x blocks = grind arith

give_leaves : (s : Objects) (p q : ℕ) (k : _) (n : ℕ) (blocks : Blocks) (alive : Bool) →
    Leaves s blocks (give_piece s p q k n blocks alive)
give_leaves s p q k n blocks false = (refl, refl)
give_leaves s p q k n blocks true = by_short (nat_lt ((s.accounts.acct p).balance k) n)
  where
    by_short : (b : Bool) → Leaves s blocks (pay_piece s p q k n blocks b)
    by_short true = (refl, refl)
    by_short false = (refl, refl)

install_leaves : (s : Objects) (p pt : ℕ) (g : GraftValue) (x : Option GraftValue) (blocks : Blocks) →
    Leaves s blocks (install_piece s p pt g x blocks)
install_leaves s p pt g (Some h) blocks = (refl, refl)
install_leaves s p pt g None blocks = (refl, refl)

joins_leaves : (s : Objects) (p pt : ℕ) (g : GraftValue) (x : Option GraftValue) (blocks : Blocks) →
    Leaves s blocks (handler_joins s p pt g x blocks)
joins_leaves s p pt g (Some h) blocks = (refl, refl)
joins_leaves s p pt g None blocks = by_room (has_room p pt s.things.handlers)
  where
    by_room : (b : Bool) → Leaves s blocks (elim b as (λ _. Piece) [
      | false ↦ refuses s blocks PortFull
      | true ↦ leaves (with_handlers (handlers_with p pt s.things.handlers) (with_new_graft p pt g s)) blocks well
    ])
    by_room true = (refl, refl)
    by_room false = (refl, refl)

remove_leaves : (s : Objects) (p pt : ℕ) (x : Option GraftValue) (blocks : Blocks) →
    Leaves s blocks (remove_piece s p pt x blocks)
remove_leaves s p pt None blocks = (refl, refl)
remove_leaves s p pt (Some g) blocks = (refl, refl)

handler_stays : (s : Objects) (p pt : ℕ) (x : Option GraftValue) (blocks : Blocks) →
    Leaves s blocks (handler_leaves s p pt x blocks)
handler_stays s p pt None blocks = (refl, refl)
handler_stays s p pt (Some g) blocks = (refl, refl)

fund_leaves : (s : Objects) (p pt : ℕ) (k : _) (n : ℕ) (x : Option GraftValue) (blocks : Blocks) →
    Leaves s blocks (fund_piece s p pt k n x blocks)
fund_leaves s p pt k n None blocks = (refl, refl)
fund_leaves s p pt k n (Some g) blocks = by_short (nat_lt ((s.accounts.acct p).balance k) n)
  where
    by_short : (b : Bool) → Leaves s blocks (elim b as (λ _. Piece) [
      | true ↦ refuses s blocks (Short ((s.accounts.acct p).balance k))
      | false ↦ leaves (with_accounts (accounts_funded p pt k n g s.accounts) s) blocks well
    ])
    by_short true = (refl, refl)
    by_short false = (refl, refl)

bill_leaves : (s : Objects) (p pt : ℕ) (x : Option GraftValue) (blocks : Blocks) →
    Leaves s blocks (bill_piece s p pt x blocks)
bill_leaves s p pt None blocks = (refl, refl)
bill_leaves s p pt (Some g) blocks = (refl, refl)

serve_leaves : (n : ℕ) (c : SysCall) (port : ℕ) (hs : List (ℕ × ℕ)) (answers : ℕ) (s : Objects) (blocks : Blocks)
    (answer : Option Answer) → Leaves s blocks (serve_piece n c port hs answers s blocks answer)
serve_leaves zero c port hs answers s blocks answer = (refl, refl)
serve_leaves (suc n) c port [] answers s blocks answer = (refl, refl)
serve_leaves (suc n) c port (h ∷ hs) answers s blocks answer = (refl, refl)

changed_leaves : (r : Result ℕ Refusal) (c : SysCall) (s : Objects) (blocks : Blocks) (out : List ℕ) →
    Leaves s blocks (stream_changed r c s blocks out)
changed_leaves (Err why) c s blocks out = (refl, refl)
changed_leaves (Ok b) c s blocks out = (refl, refl)

-- ---- a `sync`

pub sync_shown : (v : World) (s : Objects) (blocks : Blocks) (q : Piece) → IsSoundStore v s →
    IsCoherent s.things.cache blocks → WritesBackAlone s blocks q →
    Shown s.things.cache blocks q.objects.things.cache q.blocks
sync_shown v s blocks q sound coherent h =
    record { in_frames = in_frames; elsewhere = elsewhere; coherent = coherent_after; disk = disk }
  where
    c : CacheValue
    c = s.things.cache

    e : CacheValue
    e = q.objects.things.cache

    cache : IsSoundCache v s.things.queue c
    cache = cache_of_store v s sound

    held : (f : ℕ) (x : FrameValue) → c.frame f ≡ Some x → seen_block c blocks x.block ≡ x.bytes
    held = seen_held v s.things.queue c cache blocks

    some_value : (x y : FrameValue) → Some x ≡ Some y → x ≡ y
    some_value x y e = cc

    value_there : (f : ℕ) (w : IsWrittenBack s q f) → c.frame f ≡ Some w.value
    value_there f w = dirty_in_use (c.frame f) w.value w.dirty

    in_frames : (f : ℕ) (x : FrameValue) → e.frame f ≡ Some x → x.bytes ≡ seen_block c blocks x.block
    in_frames f x is = elim (h.frames f) [
      | inl same ↦ sym (held f x (sym same ∙ is))
      | inr w ↦
          let new = some_value (record (w.value) { dirty = false }) x (sym w.clean ∙ is) in
          subst (λ (y : FrameValue). y.bytes ≡ seen_block c blocks y.block) new (sym (held f w.value (value_there f w)))
    ]

    elsewhere : (b : ℕ) → IsNowhere e b → q.blocks b ≡ seen_block c blocks b
    elsewhere b none = elim (h.disk b) [
      | inl same ↦ same ∙ sym (seen_nowhere v s.things.queue c cache blocks b nowhere)
      | inr d ↦ absurd (nowhere d.frame d.value (dirty_in_use (c.frame d.frame) d.value d.dirty) d.block_is)
    ]
      where
        nowhere : IsNowhere c b
        nowhere f x is block = elim (h.frames f) [
          | inl same ↦ none f x (same ∙ is) block
          | inr w ↦ none f (record (w.value) { dirty = false }) w.clean
              (ap (λ (y : FrameValue). y.block) (some_value w.value x (sym (value_there f w) ∙ is)) ∙ block)
        ]

    clean_dirty : (x : FrameValue) (y : Option FrameValue) (z : FrameValue) → y ≡ Some x → x.dirty ≡ false →
        dirty_value y ≡ Some z → ⊥
    clean_dirty x y z is clean d = none (sym (ap dirty_value is ∙ ap (λ b. cond b (Some x) None) clean) ∙ d)
      where
        none : None ≡ Some z → ⊥
        none e = cc

    coherent_after : IsCoherent e q.blocks
    coherent_after f x is clean = elim (h.frames f) [
      | inr w ↦
          let new = some_value (record (w.value) { dirty = false }) x (sym w.clean ∙ is) in
          subst (λ (y : FrameValue). q.blocks y.block ≡ y.bytes) new w.on_disk
      | inl same ↦ elim (h.disk x.block) [
        | inl kept ↦ kept ∙ coherent f x (sym same ∙ is) clean
        | inr d ↦
            let there = dirty_in_use (c.frame d.frame) d.value d.dirty in
            let one = sound.one_frame f d.frame x d.value (sym same ∙ is) there (sym d.block_is) in
            absurd (clean_dirty x (c.frame d.frame) d.value (ap c.frame (sym one) ∙ sym same ∙ is) clean d.dirty)
      ]
    ]

    disk : WritesSeen c blocks q.blocks
    disk b = elim (h.disk b) [
      | inl same ↦ inl same
      | inr d ↦ inr (sym d.bytes_are
          ∙ sym (held d.frame d.value (dirty_in_use (c.frame d.frame) d.value d.dirty))
          ∙ ap (seen_block c blocks) d.block_is)
    ]

-- ---- all pieces

module _ (v : World) (images : ImageTable) (s : Objects) (blocks : Blocks) (p : ℕ) (t : Stage)
    (answer : Option Answer) (io : List Bool) (store : IsSoundStore v s) (fits : FitsDisk v s.things.cache)
    (whole : HasWholeBlocks v blocks) (coherent : IsCoherent s.things.cache blocks) where
  abbrev c : CacheValue
  c = s.things.cache

  cache : IsSoundCache v s.things.queue c
  cache = cache_of_store v s store

  -- what a piece keeps that puts nothing, and reads nothing first
  plain_keeps : (call : SysCall) (q : Piece) → t.call ≡ call → put_of call t.piece t.bytes ≡ None →
      is_read call ≡ false → is_sread call ≡ false → IsSoundStore v q.objects →
      Shown c blocks q.objects.things.cache q.blocks → KeepsShown v s blocks p t q
  plain_keeps call q e none reads sreads sound h =
      let same = shows_same v q.objects.things.queue c blocks q.objects.things.cache q.blocks
      (cache_of_store v q.objects sound) h in
      record {
        coherent = h.coherent;
        disk = h.disk;
        others = λ other. same;
        failed = λ other. same;
        puts = λ w is ends. absurd (none_put w (sym (ap (λ x. put_of x t.piece t.bytes) e ∙ none) ∙ is));
        read = λ fd i off len u is first goes. true_false (sym (ap is_read is) ∙ ap is_read e ∙ reads);
        taken = λ fd i off len u is first goes. true_false (sym (ap is_sread is) ∙ ap is_sread e ∙ sreads);
      }

  -- one that leaves the cache and the disk
  left_shown : (q : Piece) → Leaves s blocks q → Shown c blocks q.objects.things.cache q.blocks
  left_shown q h =
      subst (λ (x : CacheValue). Shown c blocks x q.blocks) (sym h.0)
      (subst (λ (x : Blocks). Shown c blocks c x) (sym h.1)
      (shown_self v s.things.queue c cache blocks coherent c.lru))

  -- ---- reads

  -- the block of a file is whole
  block_whole : (o : Option OpenRow) (i off len b : ℕ) → file_block v o i off len ≡ Ok b → length (blocks b) ≡ 512
  block_whole o i off len b e = whole b (file_block_is v o i off len b c store.world fits e).on_disk

  fails_goes : (why : Refusal) (u : Stage) → Fails why ≡ Continues u → ⊥
  fails_goes why u e = cc

  -- what the first piece of a read gives that goes on
  first_gives : (fd i off len b : ℕ) (o : OpenRow) (x : Fetched) (u : Stage) → AllGot (Shown c blocks) x →
      NamesBlock b x → (read_first s blocks p fd i off len o x).after ≡ Continues u →
      (read_first s blocks p fd i off len o x).gave ≡ Some (slice_range (seen_block c blocks b) off (off + len))
  first_gives fd i off len b o (Failed calls) u h names goes = absurd (fails_goes DiskFault u goes)
  first_gives fd i off len b o (Got e after frame calls) u h names goes =
      ap (λ bytes. Some (slice_range bytes off (off + len))) (frame_seen c blocks e after b frame h names)

  first_shown : (fd i off len : ℕ) (o : OpenRow) (x : Fetched) → AllGot (Shown c blocks) x →
      let q = read_first s blocks p fd i off len o x in Shown c blocks q.objects.things.cache q.blocks
  first_shown fd i off len o (Failed calls) h = shown_self v s.things.queue c cache blocks coherent c.lru
  first_shown fd i off len o (Got e after frame calls) h = h

  third_shown : (fd i off len : ℕ) (o : OpenRow) (x : Fetched) → AllGot (Shown c blocks) x →
      let q = read_third s blocks p fd i off len o x in Shown c blocks q.objects.things.cache q.blocks
  third_shown fd i off len o (Failed calls) h = shown_self v s.things.queue c cache blocks coherent c.lru
  third_shown fd i off len o (Got e after frame calls) h = h

  first_at : (r : Result ℕ Refusal) (fd i off len : ℕ) (o : OpenRow) →
      let q = read_first_at r v s blocks p fd i off len o (registers_of answer) io in
      Shown c blocks q.objects.things.cache q.blocks
  first_at (Err why) fd i off len o = shown_self v s.things.queue c cache blocks coherent c.lru
  first_at (Ok b) fd i off len o =
      first_shown fd i off len o (fetch v (s.things.pol 1) p b (registers_of answer) c blocks io)
      (fetch_shown v s.things.queue c cache blocks coherent (s.things.pol 1) p b (registers_of answer) io)

  third_at : (r : Result ℕ Refusal) (fd i off len : ℕ) (o : OpenRow) →
      let q = read_third_at r v s blocks p fd i off len o (registers_of answer) io in
      Shown c blocks q.objects.things.cache q.blocks
  third_at (Err why) fd i off len o = shown_self v s.things.queue c cache blocks coherent c.lru
  third_at (Ok b) fd i off len o =
      third_shown fd i off len o (fetch_ahead v (s.things.pol 1) p b (registers_of answer) c blocks io)
      (ahead_shown v s.things.queue c cache blocks coherent (s.things.pol 1) p b (registers_of answer) io)

  read_shown : (n fd i off len : ℕ) (row : Option OpenRow) →
      let q = read_piece n v s blocks p fd i off len row (registers_of answer) io in
      Shown c blocks q.objects.things.cache q.blocks
  read_shown n fd i off len None = shown_self v s.things.queue c cache blocks coherent c.lru
  read_shown zero fd i off len (Some o) = first_at (file_block v (Some o) i off len) fd i off len o
  read_shown (suc zero) fd i off len (Some o) = shown_self v s.things.queue c cache blocks coherent c.lru
  read_shown (suc (suc n)) fd i off len (Some o) = third_at (ahead_block v (Some o)) fd i off len o

  -- what a read gives is what is seen
  read_gives : (fd i off len : ℕ) (row : Option OpenRow) (u : Stage) →
      (read_piece 0 v s blocks p fd i off len row (registers_of answer) io).after ≡ Continues u →
      (b : ℕ) × (file_block v row i off len ≡ Ok b)
      × ((read_piece 0 v s blocks p fd i off len row (registers_of answer) io).gave
      ≡ Some (slice_range (seen_block c blocks b) off (off + len)))
  read_gives fd i off len None u goes = absurd (fails_goes BadFd u goes)
  read_gives fd i off len (Some o) u goes = by_block (file_block v (Some o) i off len) refl goes
    where
      by_block : (r : Result ℕ Refusal) → file_block v (Some o) i off len ≡ r →
          (read_first_at r v s blocks p fd i off len o (registers_of answer) io).after ≡ Continues u →
          (b : ℕ) × (file_block v (Some o) i off len ≡ Ok b)
          × ((read_first_at r v s blocks p fd i off len o (registers_of answer) io).gave
          ≡ Some (slice_range (seen_block c blocks b) off (off + len)))
      by_block (Err why) e goes = absurd (fails_goes why u goes)
      by_block (Ok b) e goes = (
        b,
        e,
        first_gives fd i off len b o
            (fetch v (s.things.pol 1) p b (registers_of answer) c blocks io) u
            (fetch_shown v s.things.queue c cache blocks coherent (s.things.pol 1) p b (registers_of answer) io)
            (fetch_names v s.things.queue (s.things.pol 1) p b (registers_of answer) c blocks io cache
            (block_whole (Some o) i off len b e)) goes,
      )

  read_keeps : (fd i off len : ℕ) → t.call ≡ Read fd i off len →
      IsSoundStore v
      (read_piece t.piece v s blocks p fd i off len (s.things.file p fd) (registers_of answer) io).objects →
      KeepsShown v s blocks p t
      (read_piece t.piece v s blocks p fd i off len (s.things.file p fd) (registers_of answer) io)
  read_keeps fd i off len e sound =
      let q = read_piece t.piece v s blocks p fd i off len (s.things.file p fd) (registers_of answer) io in
      let h = read_shown t.piece fd i off len (s.things.file p fd) in
      let same = shows_same v q.objects.things.queue c blocks q.objects.things.cache q.blocks
      (cache_of_store v q.objects sound) h in
      record {
        coherent = h.coherent;
        disk = h.disk;
        others = λ other. same;
        failed = λ other. same;
        puts = λ w is ends. absurd (none_put w (sym (ap (λ x. put_of x t.piece t.bytes) e) ∙ is));
        read = λ fd2 i2 off2 len2 u is first goes. given_is fd2 i2 off2 len2 u (sym e ∙ is) first goes;
        taken = λ fd2 i2 off2 len2 u is first goes. true_false (sym (ap is_sread is) ∙ ap is_sread e);
      }
    where
      the_piece : ℕ → Piece
      the_piece n = read_piece n v s blocks p fd i off len (s.things.file p fd) (registers_of answer) io

      given_is : (fd2 i2 off2 len2 : ℕ) (u : Stage) → Read fd i off len ≡ Read fd2 i2 off2 len2 → t.piece ≡ 0 →
          (the_piece t.piece).after ≡ Continues u →
          (b : ℕ) × (file_block v (s.things.file p fd2) i2 off2 len2 ≡ Ok b)
          × ((the_piece t.piece).gave ≡ Some (slice_range (seen_block c blocks b) off2 (off2 + len2)))
      given_is fd2 i2 off2 len2 u same first goes =
          let a : fd ≡ fd2 = cc in
          let d : i ≡ i2 = cc in
          let f : off ≡ off2 = cc in
          let g : len ≡ len2 = cc in
          let gives = read_gives fd i off len (s.things.file p fd) u
          (subst (λ n. (the_piece n).after ≡ Continues u) first goes) in
          subst (λ x. (b : ℕ) × (file_block v (s.things.file p x) i2 off2 len2 ≡ Ok b)
          × ((the_piece t.piece).gave ≡ Some (slice_range (seen_block c blocks b) off2 (off2 + len2)))) a
          (subst (λ x. (b : ℕ) × (file_block v (s.things.file p fd) x off2 len2 ≡ Ok b)
          × ((the_piece t.piece).gave ≡ Some (slice_range (seen_block c blocks b) off2 (off2 + len2)))) d
          (subst (λ x. (b : ℕ) × (file_block v (s.things.file p fd) i x len2 ≡ Ok b)
          × ((the_piece t.piece).gave ≡ Some (slice_range (seen_block c blocks b) x (x + len2)))) f
          (subst (λ x. (b : ℕ) × (file_block v (s.things.file p fd) i off x ≡ Ok b)
          × ((the_piece t.piece).gave ≡ Some (slice_range (seen_block c blocks b) off (off + x)))) g
          (gives.0, gives.1, ap (λ n. (the_piece n).gave) first ∙ gives.2))))

  -- ---- writes

  fails_not : (why : Refusal) → Fails why ≡ well → ⊥
  fails_not why e = cc

  -- a write of bytes that stand in the stage as what it puts
  write_keeps : (fd i off : ℕ) (new : List ℕ) →
      put_by t ≡ Some (record { file = fd; block = i; offset = off; bytes = new }) →
      is_read t.call ≡ false → ((u : ℕ) → is_sread t.call ≡ true → t.piece ≡ u → ⊥) → (r : Result ℕ Refusal) →
      file_block v (s.things.file p fd) i off (length new) ≡ r →
      IsSoundStore v (write_piece r v s blocks p off new (registers_of answer) io).objects →
      KeepsShown v s blocks p t (write_piece r v s blocks p off new (registers_of answer) io)
  write_keeps fd i off new put reads sreads (Err why) e sound =
      record {
        coherent = coherent;
        disk = λ b. inl refl;
        others = λ other b. refl;
        failed = λ other b. refl;
        puts = λ w is ends. absurd (fails_not why ends);
        read = λ fd2 i2 off2 len2 u is first goes. true_false (sym (ap is_read is) ∙ reads);
        taken = λ fd2 i2 off2 len2 u is first goes. absurd (sreads t.piece (ap is_sread is) refl);
      }
  write_keeps fd i off new put reads sreads (Ok b) e sound =
      by_fetched (fetch v (s.things.pol 1) p b (registers_of answer) c blocks io)
      (fetch_shown v s.things.queue c cache blocks coherent (s.things.pol 1) p b (registers_of answer) io)
      (fetch_names v s.things.queue (s.things.pol 1) p b (registers_of answer) c blocks io cache
      (block_whole (s.things.file p fd) i off (length new) b e)) sound
    where
      by_fetched : (x : Fetched) → AllGot (Shown c blocks) x → NamesBlock b x →
          IsSoundStore v (write_fetched s blocks off new x).objects →
          KeepsShown v s blocks p t (write_fetched s blocks off new x)
      by_fetched (Failed calls) h names sound =
          record {
            coherent = coherent;
            disk = λ b. inl refl;
            others = λ other b. refl;
            failed = λ other b. refl;
            puts = λ w is ends. absurd (fails_not DiskFault ends);
            read = λ fd2 i2 off2 len2 u is first goes. true_false (sym (ap is_read is) ∙ reads);
            taken = λ fd2 i2 off2 len2 u is first goes. absurd (sreads t.piece (ap is_sread is) refl);
          }
      by_fetched (Got d after frame calls) h names sound =
          let put_there = patch_shown v s.things.queue c blocks d after b frame off new h names
          (cache_of_store v (write_fetched s blocks off new (Got d after frame calls)).objects sound) in
          record {
            coherent = put_there.0;
            disk = h.disk;
            others = λ other. absurd (none_put (record { file = fd; block = i; offset = off; bytes = new })
                (sym other ∙ put));
            failed = λ other. absurd (other refl);
            puts = λ w is ends. subst (λ (w : Put). (b : ℕ)
                × (file_block v (s.things.file p w.file) w.block w.offset (length w.bytes) ≡ Ok b)
                × ShowsPut b w.offset w.bytes c blocks (with_patch frame off new d) after)
                (put_is (record { file = fd; block = i; offset = off; bytes = new }) w (sym put ∙ is))
                (b, e, put_there.1);
            read = λ fd2 i2 off2 len2 u is first goes. true_false (sym (ap is_read is) ∙ reads);
            taken = λ fd2 i2 off2 len2 u is first goes. absurd (sreads t.piece (ap is_sread is) refl);
          }

  -- ---- stream reads

  stage_is : (a b : Stage) → Continues a ≡ Continues b → a ≡ b
  stage_is a b e = cc

  taken_shown : (call : SysCall) (off len : ℕ) (x : Fetched) → AllGot (Shown c blocks) x →
      let q = stream_taken call s blocks off len x in Shown c blocks q.objects.things.cache q.blocks
  taken_shown call off len (Failed calls) h = shown_self v s.things.queue c cache blocks coherent c.lru
  taken_shown call off len (Got e after frame calls) h = h

  takes_seen : (call : SysCall) (off len b : ℕ) (x : Fetched) (u : Stage) → AllGot (Shown c blocks) x →
      NamesBlock b x → (stream_taken call s blocks off len x).after ≡ Continues u →
      u.bytes ≡ slice_range (seen_block c blocks b) off (off + len)
  takes_seen call off len b (Failed calls) u h names goes = absurd (fails_goes DiskFault u goes)
  takes_seen call off len b (Got e after frame calls) u h names goes =
      sym (ap (λ (x : Stage). x.bytes) (stage_is (record {
        call = call;
        piece = 1;
        handlers = [];
        answers = 0;
        bytes = slice_range (bytes_of e frame) off (off + len);
      }) u goes))
      ∙ ap (λ bytes. slice_range bytes off (off + len)) (frame_seen c blocks e after b frame h names)

  fetches_shown : (r : Result ℕ Refusal) (call : SysCall) (off len : ℕ) →
      let q = stream_fetches r call v s blocks p off len answer io in
      Shown c blocks q.objects.things.cache q.blocks
  fetches_shown (Err why) call off len = shown_self v s.things.queue c cache blocks coherent c.lru
  fetches_shown (Ok b) call off len =
      taken_shown call off len (fetch v (s.things.pol 1) p b (registers_of answer) c blocks io)
      (fetch_shown v s.things.queue c cache blocks coherent (s.things.pol 1) p b (registers_of answer) io)

  sread_shown : (n fd i off len : ℕ) →
      let q = stream_read_piece n t v s blocks p fd i off len answer io in
      Shown c blocks q.objects.things.cache q.blocks
  sread_shown zero fd i off len = fetches_shown (file_block v (s.things.file p fd) i off len) t.call off len
  sread_shown (suc n) fd i off len = shown_self v s.things.queue c cache blocks coherent c.lru

  sread_takes : (fd i off len : ℕ) (u : Stage) →
      (stream_read_piece 0 t v s blocks p fd i off len answer io).after ≡ Continues u →
      (b : ℕ) × (file_block v (s.things.file p fd) i off len ≡ Ok b)
      × (u.bytes ≡ slice_range (seen_block c blocks b) off (off + len))
  sread_takes fd i off len u goes = by_block (file_block v (s.things.file p fd) i off len) refl goes
    where
      by_block : (r : Result ℕ Refusal) → file_block v (s.things.file p fd) i off len ≡ r →
          (stream_fetches r t.call v s blocks p off len answer io).after ≡ Continues u →
          (b : ℕ) × (file_block v (s.things.file p fd) i off len ≡ Ok b)
          × (u.bytes ≡ slice_range (seen_block c blocks b) off (off + len))
      by_block (Err why) e goes = absurd (fails_goes why u goes)
      by_block (Ok b) e goes = (
        b,
        e,
        takes_seen t.call off len b
            (fetch v (s.things.pol 1) p b (registers_of answer) c blocks io) u
            (fetch_shown v s.things.queue c cache blocks coherent (s.things.pol 1) p b (registers_of answer) io)
            (fetch_names v s.things.queue (s.things.pol 1) p b (registers_of answer) c blocks io cache
            (block_whole (s.things.file p fd) i off len b e)) goes,
      )

  sread_keeps : (fd i off len : ℕ) → t.call ≡ StreamRead fd i off len →
      IsSoundStore v (stream_read_piece t.piece t v s blocks p fd i off len answer io).objects →
      KeepsShown v s blocks p t (stream_read_piece t.piece t v s blocks p fd i off len answer io)
  sread_keeps fd i off len e sound =
      let q = stream_read_piece t.piece t v s blocks p fd i off len answer io in
      let h = sread_shown t.piece fd i off len in
      let same = shows_same v q.objects.things.queue c blocks q.objects.things.cache q.blocks
      (cache_of_store v q.objects sound) h in
      record {
        coherent = h.coherent;
        disk = h.disk;
        others = λ other. same;
        failed = λ other. same;
        puts = λ w is ends. absurd (none_put w (sym (ap (λ x. put_of x t.piece t.bytes) e) ∙ is));
        read = λ fd2 i2 off2 len2 u is first goes. true_false (sym (ap is_read is) ∙ ap is_read e);
        taken = λ fd2 i2 off2 len2 u is first goes. taken_is fd2 i2 off2 len2 u (sym e ∙ is) first goes;
      }
    where
      taken_is : (fd2 i2 off2 len2 : ℕ) (u : Stage) → StreamRead fd i off len ≡ StreamRead fd2 i2 off2 len2 →
          t.piece ≡ 0 → (stream_read_piece t.piece t v s blocks p fd i off len answer io).after ≡ Continues u →
          (b : ℕ) × (file_block v (s.things.file p fd2) i2 off2 len2 ≡ Ok b)
          × (u.bytes ≡ slice_range (seen_block c blocks b) off2 (off2 + len2))
      taken_is fd2 i2 off2 len2 u same first goes =
          let a : fd ≡ fd2 = cc in
          let d : i ≡ i2 = cc in
          let f : off ≡ off2 = cc in
          let g : len ≡ len2 = cc in
          subst (λ x. (b : ℕ) × (file_block v (s.things.file p x) i2 off2 len2 ≡ Ok b)
          × (u.bytes ≡ slice_range (seen_block c blocks b) off2 (off2 + len2))) a
          (subst (λ x. (b : ℕ) × (file_block v (s.things.file p fd) x off2 len2 ≡ Ok b)
          × (u.bytes ≡ slice_range (seen_block c blocks b) off2 (off2 + len2))) d
          (subst (λ x. (b : ℕ) × (file_block v (s.things.file p fd) i x len2 ≡ Ok b)
          × (u.bytes ≡ slice_range (seen_block c blocks b) x (x + len2))) f
          (subst (λ x. (b : ℕ) × (file_block v (s.things.file p fd) i off x ≡ Ok b)
          × (u.bytes ≡ slice_range (seen_block c blocks b) off (off + x))) g
          (sread_takes fd i off len u
          (subst (λ n. (stream_read_piece n t v s blocks p fd i off len answer io).after ≡ Continues u) first goes)))))

  -- the two pieces of a stream write
  swrite_keeps : (fd i off : ℕ) (given : List ℕ) → t.call ≡ StreamWrite fd i off given → (n : ℕ) → t.piece ≡ n →
      IsSoundStore v (stream_write_piece n t v s blocks p fd i off given answer io).objects →
      KeepsShown v s blocks p t (stream_write_piece n t v s blocks p fd i off given answer io)
  swrite_keeps fd i off given e zero first sound =
      plain_keeps (StreamWrite fd i off given) (stream_write_piece 0 t v s blocks p fd i off given answer io) e
      (ap (λ n. put_of (StreamWrite fd i off given) n t.bytes) first) refl refl sound
      (left_shown (stream_write_piece 0 t v s blocks p fd i off given answer io)
      (changed_leaves (file_block v (s.things.file p fd) i off (length given)) t.call s blocks (through answer given)))
  swrite_keeps fd i off given e (suc n) later sound =
      write_keeps fd i off t.bytes
      (ap (λ x. put_of x t.piece t.bytes) e ∙ ap (λ n. put_of (StreamWrite fd i off given) n t.bytes) later)
      (ap is_read e) (λ u reads same. true_false (sym reads ∙ ap is_sread e))
      (file_block v (s.things.file p fd) i off (length t.bytes)) refl sound

  -- ---- each call

  abbrev piece_by : SysCall → Bool → Bool → Piece
  piece_by call stream event =
      cond stream (stream_piece call t v s blocks p answer io)
      (cond event (event_piece call t s blocks p answer) (piece_of call t.piece v s blocks p (registers_of answer) io))

  table_leaves : (call : SysCall) → Leaves s blocks (stream_piece call t v s blocks p answer io) →
      Leaves s blocks (event_piece call t s blocks p answer) →
      Leaves s blocks (piece_of call t.piece v s blocks p (registers_of answer) io) → (stream event : Bool) →
      Leaves s blocks (piece_by call stream event)
  table_leaves call a b d true event = a
  table_leaves call a b d false true = b
  table_leaves call a b d false false = d

  -- a call whose pieces leave the cache and the disk
  left_keeps : (call : SysCall) → t.call ≡ call → put_of call t.piece t.bytes ≡ None → is_read call ≡ false →
      is_sread call ≡ false → (q : Piece) → IsSoundStore v q.objects → Leaves s blocks q → KeepsShown v s blocks p t q
  left_keeps call e none reads sreads q sound h = plain_keeps call q e none reads sreads sound (left_shown q h)

  call_keeps : (call : SysCall) → t.call ≡ call →
      IsSoundStore v (piece_by call (is_stream_call call) (is_event_call call)).objects →
      KeepsShown v s blocks p t (piece_by call (is_stream_call call) (is_event_call call))
  call_keeps Spawn e sound =
      left_keeps Spawn e refl refl refl _ sound (spawn_leaves s (free_process s.things.queue 16 0) blocks)
  call_keeps Exit e sound =
      plain_keeps Exit (exit_piece s p blocks) e refl refl refl sound
      (cores_shown v s blocks (exit_piece s p blocks).objects.things.cache store coherent
      (λ f. handed_core p 0 (c.frame f)))
  call_keeps Yield e sound =
      left_keeps Yield e refl refl refl _ sound (yield_leaves t.piece s p (registers_of answer) blocks)
  call_keeps (OpenName name) e sound =
      left_keeps (OpenName name) e refl refl refl _ sound
      (open_leaves s p (file_named v name) (free_descriptor s.things p 4 0) blocks)
  call_keeps (CloseFd fd) e sound =
      left_keeps (CloseFd fd) e refl refl refl _ sound (close_leaves s p fd (s.things.file p fd) blocks)
  call_keeps (Read fd i off len) e sound = read_keeps fd i off len e sound
  call_keeps (Write fd i off bytes) e sound =
      write_keeps fd i off bytes (ap (λ x. put_of x t.piece t.bytes) e) (ap is_read e)
      (λ u reads same. true_false (sym reads ∙ ap is_sread e))
      (file_block v (s.things.file p fd) i off (length bytes)) refl sound
  call_keeps Sync e sound =
      let q = sync_from v.frames 0 0 s blocks io in
      plain_keeps Sync q e refl refl refl sound
      (sync_shown v s blocks q store coherent
      (syncs_write_back_alone v s blocks p t.piece (registers_of answer) io store))
  call_keeps (TakeLock u) e sound =
      left_keeps (TakeLock u) e refl refl refl _ sound (take_leaves s p u (s.things.lock u) blocks)
  call_keeps (FreeLock u) e sound =
      left_keeps (FreeLock u) e refl refl refl _ sound (free_leaves s p u (s.things.lock u) blocks)
  call_keeps (Poke k x) e sound = left_keeps (Poke k x) e refl refl refl _ sound (refl, refl)
  call_keeps (Peek k) e sound = left_keeps (Peek k) e refl refl refl _ sound (refl, refl)
  call_keeps (Tune kind k x) e sound =
      left_keeps (Tune kind k x) e refl refl refl _ sound (tune_leaves s kind k x blocks)
  call_keeps (Choose kind j) e sound = left_keeps (Choose kind j) e refl refl refl _ sound (refl, refl)
  call_keeps (Give q k x) e sound =
      left_keeps (Give q k x) e refl refl refl _ sound (give_leaves s p q k x blocks (lives s.things.queue q))
  call_keeps (Install pt i limit) e sound =
      left_keeps (Install pt i limit) e refl refl refl _ sound
      (table_leaves (Install pt i limit)
      (install_leaves s p pt (new_graft i limit) (s.accounts.graft p pt) blocks)
      (joins_leaves s p pt (new_graft i limit) (s.accounts.graft p pt) blocks)
      (install_leaves s p pt (new_graft i limit) (s.accounts.graft p pt) blocks)
      (is_stream_call (Install pt i limit)) (is_event_call (Install pt i limit)))
  call_keeps (Remove pt) e sound =
      left_keeps (Remove pt) e refl refl refl _ sound
      (table_leaves (Remove pt) (remove_leaves s p pt (s.accounts.graft p pt) blocks)
      (handler_stays s p pt (s.accounts.graft p pt) blocks) (remove_leaves s p pt (s.accounts.graft p pt) blocks)
      (is_stream_call (Remove pt)) (is_event_call (Remove pt)))
  call_keeps (Fund pt k x) e sound =
      let h = fund_leaves s p pt k x (s.accounts.graft p pt) blocks in
      left_keeps (Fund pt k x) e refl refl refl _ sound
      (table_leaves (Fund pt k x) h h h (is_stream_call (Fund pt k x)) (is_event_call (Fund pt k x)))
  call_keeps (Bill pt) e sound =
      let h = bill_leaves s p pt (s.accounts.graft p pt) blocks in
      left_keeps (Bill pt) e refl refl refl _ sound
      (table_leaves (Bill pt) h h h (is_stream_call (Bill pt)) (is_event_call (Bill pt)))
  call_keeps (Serve port bytes) e sound =
      left_keeps (Serve port bytes) e refl refl refl _ sound
      (serve_leaves t.piece t.call port t.handlers t.answers s blocks answer)
  call_keeps (StreamRead fd i off len) e sound = sread_keeps fd i off len e sound
  call_keeps (StreamWrite fd i off given) e sound = swrite_keeps fd i off given e t.piece refl sound

pub pieces_keep_shown : PiecesKeepShown
pieces_keep_shown v images s blocks p t answer io ready whole coherent =
    call_keeps v images s blocks p t answer io ready.standing.store ready.disk whole coherent t.call refl
    (laws_of_all_calls.piece.store v images s blocks p t answer io ready whole)
