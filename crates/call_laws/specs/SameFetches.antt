-- Fetches, reads, writes, syncs and exits do the same on two states that agree on what they need.
use Rattle.std.specs.Prelude.{◌≡◌, ℕ, zero, suc, ◌<◌, Bool, true, false, List, [], ◌∷◌, Option}
use Rattle.std.specs.Prelude.{None, Some, is_some, Result, Ok, Err, filter, not, ◌==◌}
use Rattle.std.proofs.Common.{arith, refl, subst, ap, ◌∙◌}
use Rattle.std.proofs.lemmas.Bool.Decides.{nat_tests}
use Rattle.kernel_model.specs.declared.Object.{Object}
use Rattle.kernel_model.specs.declared.Object.TheVariants.{Graft, Acct, Cell, OpenFile, Queue, Cache, Lock, Pol}
use Rattle.kernel_model.specs.declared.OpenRow.{OpenRow}
use Rattle.kernel_model.specs.declared.Refusal.{Refusal}
use Rattle.kernel_model.specs.World.{World, Blocks}
use Rattle.kernel_model.specs.Objects.{Objects, Accounts, GraftValue, CacheValue, FrameValue, PolValue, SameAt, at}
use Rattle.kernel_model.specs.Policies.{least, or_zero, victim_key, victim_among, ahead_default}
use Rattle.kernel_model.specs.Meaning.{Piece, disk_fails}
use Rattle.kernel_model.specs.Charges.{removed, removed_by}
use Rattle.kernel_model.specs.Needs.{candidate_by, candidate_for, frame_of_block, free_frame, file_block, ahead_block}
use Rattle.kernel_model.specs.Fetch.{Fetched, Failed, fetch, fetch_by, fetch_ahead, fetch_ahead_by}
use Rattle.kernel_model.specs.Fetch.{read_block, place_block, chosen_by, cleaned, dirty_value}
use Rattle.kernel_model.specs.FilePieces.{with_cache, read_piece, ahead_by, disk_failed, read_first}
use Rattle.kernel_model.specs.FilePieces.{read_third, read_first_at, read_third_at, write_piece}
use Rattle.kernel_model.specs.FilePieces.{write_fetched, sync_from}
use Rattle.kernel_model.specs.declared.QueueRow.{QueueRow}
use Rattle.kernel_model.specs.Handlers.{handlers_without_process}
use Rattle.kernel_model.specs.Pieces.{without_grafts, account_closed, exit_piece, things_without}
use Rattle.kernel_model.specs.Alike.{Keeps}
use Rattle.call_laws.specs.SamePieces.{SamePiece, same_refusal, read_first_same, read_second_same}
use Rattle.call_laws.specs.SamePieces.{read_third_same, write_same}

-- there is a candidate for eviction whatever the policy says, or for none
least_is_some : (k l : ℕ → ℕ) (xs : List ℕ) → is_some (least k xs) ≡ is_some (least l xs)
least_is_some k l [] = refl
least_is_some k l (x ∷ xs) = grind (arith, least_is_some k l xs)

-- numbers that are the same where there are any
same_or_zero : (x y : Option ℕ) → is_some x ≡ is_some y → (is_some x ≡ true → x ≡ y) →
    or_zero x ≡ or_zero y
same_or_zero x y e h = grind arith

-- where a frame is free, the candidate doesn't matter
place_same : (free : Option ℕ) (p b : ℕ) (answer : Option (List ℕ)) (x y : ℕ) (c : CacheValue)
    (blocks : Blocks) (io : List Bool) → (free ≡ None → x ≡ y) →
    place_block free p b (chosen_by answer x) x c blocks io
    ≡ place_block free p b (chosen_by answer y) y c blocks io
place_same None p b answer x y c blocks io h =
    ap (λ z. place_block None p b (chosen_by answer z) z c blocks io) (h refl)
place_same (Some f) p b answer x y c blocks io h = refl

-- what is known of two policies where a frame must be chosen
read_same_by : (v : World) (pol other : PolValue) (p b : ℕ) (answer : Option (List ℕ))
    (c : CacheValue) (blocks : Blocks) (io : List Bool) →
    (free_frame c v.frames 0 ≡ None →
    or_zero (victim_among pol c c.lru) ≡ or_zero (victim_among other c c.lru)) →
    read_block v pol p b answer c blocks io ≡ read_block v other p b answer c blocks io
read_same_by v pol other p b answer c blocks io h =
    ap (λ (q : Fetched). elim (disk_fails io 0) as (λ (x : Bool). Fetched) [
      | true ↦ Failed 1
      | false ↦ q
    ])
    (place_same (free_frame c v.frames 0) p b answer (or_zero (victim_among pol c c.lru))
    (or_zero (victim_among other c c.lru)) c blocks io h)

-- a block that is read
read_same : (v : World) (pol other : PolValue) (p b : ℕ) (answer : Option (List ℕ)) (c : CacheValue)
    (blocks : Blocks) (io : List Bool) →
    (is_some (candidate_by None (free_frame c v.frames 0) (victim_among pol c c.lru)) ≡ true →
    pol ≡ other) →
    read_block v pol p b answer c blocks io ≡ read_block v other p b answer c blocks io
read_same v pol other p b answer c blocks io h =
    read_same_by v pol other p b answer c blocks io (λ e.
    same_or_zero (victim_among pol c c.lru) (victim_among other c c.lru)
    (least_is_some (victim_key pol c) (victim_key other c) c.lru)
    (λ there. ap (λ q. victim_among q c c.lru)
    (h (ap (λ f. is_some (candidate_by None f (victim_among pol c c.lru))) e ∙ there))))

-- a fetch
fetch_same_by : (x : Option ℕ) (v : World) (pol other : PolValue) (p b : ℕ)
    (answer : Option (List ℕ)) (c : CacheValue) (blocks : Blocks) (io : List Bool) →
    (is_some (candidate_by x (free_frame c v.frames 0) (victim_among pol c c.lru)) ≡ true →
    pol ≡ other) →
    fetch_by x v pol p b answer c blocks io ≡ fetch_by x v other p b answer c blocks io
fetch_same_by None v pol other p b answer c blocks io h =
    read_same v pol other p b answer c blocks io h
fetch_same_by (Some f) v pol other p b answer c blocks io h = refl

-- a fetch ahead
ahead_same_by : (x : Option ℕ) (v : World) (pol other : PolValue) (p b : ℕ)
    (answer : Option (List ℕ)) (c : CacheValue) (blocks : Blocks) (io : List Bool) →
    (is_some (candidate_by x (free_frame c v.frames 0) (victim_among pol c c.lru)) ≡ true →
    pol ≡ other) →
    fetch_ahead_by x v pol p b answer c blocks io ≡ fetch_ahead_by x v other p b answer c blocks io
ahead_same_by None v pol other p b answer c blocks io h =
    read_same v pol other p b answer c blocks io h
ahead_same_by (Some f) v pol other p b answer c blocks io h = refl

-- two states agree on what a fetch needs, but for the point that it asks
pub record FetchAgrees (v : World) (s u : Objects) (r : Result ℕ Refusal) : Type 0 where
  pub cache : (b : ℕ) → r ≡ Ok b → s.things.cache ≡ u.things.cache
  pub policy : (b : ℕ) → r ≡ Ok b →
      is_some (candidate_for v (s.things.pol 1) s.things.cache b) ≡ true →
      s.things.pol 1 ≡ u.things.pol 1

-- a fetch on two such states
fetch_same : (v : World) (s u : Objects) (p b : ℕ) (answer : Option (List ℕ)) (blocks : Blocks)
    (io : List Bool) → FetchAgrees v s u (Ok b) →
    fetch v (s.things.pol 1) p b answer s.things.cache blocks io
    ≡ fetch v (u.things.pol 1) p b answer u.things.cache blocks io
fetch_same v s u p b answer blocks io h =
    fetch_same_by (frame_of_block s.things.cache b) v (s.things.pol 1)
    (u.things.pol 1) p b answer s.things.cache blocks io (h.policy b refl)
    ∙ ap (λ c. fetch v (u.things.pol 1) p b answer c blocks io) (h.cache b refl)

-- a fetch ahead on two such states
ahead_same : (v : World) (s u : Objects) (p b : ℕ) (answer : Option (List ℕ)) (blocks : Blocks)
    (io : List Bool) → FetchAgrees v s u (Ok b) →
    fetch_ahead v (s.things.pol 1) p b answer s.things.cache blocks io
    ≡ fetch_ahead v (u.things.pol 1) p b answer u.things.cache blocks io
ahead_same v s u p b answer blocks io h =
    ahead_same_by (frame_of_block s.things.cache b) v (s.things.pol 1)
    (u.things.pol 1) p b answer s.things.cache blocks io (h.policy b refl)
    ∙ ap (λ c. fetch_ahead v (u.things.pol 1) p b answer c blocks io) (h.cache b refl)

-- the first piece of a read, for the block that it names
first_same : (r : Result ℕ Refusal) (v : World) (s u : Objects) (blocks : Blocks)
    (p fd i off len : ℕ) (row : OpenRow) (answer : Option (List ℕ)) (io : List Bool) →
    FetchAgrees v s u r →
    SamePiece s u (read_first_at r v s blocks p fd i off len row answer io)
    (read_first_at r v u blocks p fd i off len row answer io)
first_same (Err refusal) v s u blocks p fd i off len row answer io h =
    same_refusal s u blocks refusal refusal refl
first_same (Ok b) v s u blocks p fd i off len row answer io h =
    subst (λ f. SamePiece s u
    (read_first s blocks p fd i off len row
    (fetch v (s.things.pol 1) p b answer s.things.cache blocks io))
    (read_first u blocks p fd i off len row f))
    (fetch_same v s u p b answer blocks io h)
    (read_first_same s u blocks p fd i off len row
    (fetch v (s.things.pol 1) p b answer s.things.cache blocks io))

-- a later piece of a read, for the block ahead
third_same : (r : Result ℕ Refusal) (v : World) (s u : Objects) (blocks : Blocks)
    (p fd i off len : ℕ) (row : OpenRow) (answer : Option (List ℕ)) (io : List Bool) →
    FetchAgrees v s u r →
    SamePiece s u (read_third_at r v s blocks p fd i off len row answer io)
    (read_third_at r v u blocks p fd i off len row answer io)
third_same (Err refusal) v s u blocks p fd i off len row answer io h =
    same_refusal s u blocks refusal refusal refl
third_same (Ok b) v s u blocks p fd i off len row answer io h =
    subst (λ f. SamePiece s u
    (read_third s blocks p fd i off len row
    (fetch_ahead v (s.things.pol 1) p b answer s.things.cache blocks io))
    (read_third u blocks p fd i off len row f))
    (ahead_same v s u p b answer blocks io h)
    (read_third_same s u blocks p fd i off len row
    (fetch_ahead v (s.things.pol 1) p b answer s.things.cache blocks io))

-- two states agree on what a piece of a read looks at besides the file
abbrev pub ReadAgrees : ℕ → World → (s u : Objects) → (i off len : ℕ) → Option OpenRow → Type 0
ReadAgrees zero v s u i off len row = FetchAgrees v s u (file_block v row i off len)
ReadAgrees (suc zero) v s u i off len row = s.things.pol 0 ≡ u.things.pol 0
ReadAgrees (suc (suc n)) v s u i off len row = FetchAgrees v s u (ahead_block v row)

-- a piece of a read of this file
read_row_same : (n : ℕ) (v : World) (s u : Objects) (blocks : Blocks) (p fd i off len : ℕ)
    (row : Option OpenRow) (answer : Option (List ℕ)) (io : List Bool) →
    ReadAgrees n v s u i off len row →
    SamePiece s u (read_piece n v s blocks p fd i off len row answer io)
    (read_piece n v u blocks p fd i off len row answer io)
read_row_same n v s u blocks p fd i off len None answer io h =
    same_refusal s u blocks Refusal.BadFd Refusal.BadFd refl
read_row_same zero v s u blocks p fd i off len (Some row) answer io h =
    first_same (file_block v (Some row) i off len) v s u blocks p fd i off len row answer io h
read_row_same (suc zero) v s u blocks p fd i off len (Some row) answer io h =
    read_second_same s u blocks p fd i off len row row _ _ refl
    (ap (λ q. ahead_by answer (ahead_default v q (Some row))) h)
read_row_same (suc (suc n)) v s u blocks p fd i off len (Some row) answer io h =
    third_same (ahead_block v (Some row)) v s u blocks p fd i off len row answer io h

-- a piece of a read
pub read_piece_same : (n : ℕ) (v : World) (s u : Objects) (blocks : Blocks) (p fd i off len : ℕ)
    (row other : Option OpenRow) (answer : Option (List ℕ)) (io : List Bool) →
    row ≡ other → ReadAgrees n v s u i off len row →
    SamePiece s u (read_piece n v s blocks p fd i off len row answer io)
    (read_piece n v u blocks p fd i off len other answer io)
read_piece_same n v s u blocks p fd i off len row other answer io e h =
    subst (λ x. SamePiece s u (read_piece n v s blocks p fd i off len row answer io)
    (read_piece n v u blocks p fd i off len x answer io)) e
    (read_row_same n v s u blocks p fd i off len row answer io h)

-- a write, for the block that it names
write_at_same : (r : Result ℕ Refusal) (v : World) (s u : Objects) (blocks : Blocks) (p off : ℕ)
    (new : List ℕ) (answer : Option (List ℕ)) (io : List Bool) →
    FetchAgrees v s u r →
    SamePiece s u (write_piece r v s blocks p off new answer io)
    (write_piece r v u blocks p off new answer io)
write_at_same (Err refusal) v s u blocks p off new answer io h =
    same_refusal s u blocks refusal refusal refl
write_at_same (Ok b) v s u blocks p off new answer io h =
    subst (λ f. SamePiece s u
    (write_fetched s blocks off new
    (fetch v (s.things.pol 1) p b answer s.things.cache blocks io))
    (write_fetched u blocks off new f))
    (fetch_same v s u p b answer blocks io h)
    (write_same s u blocks off new
    (fetch v (s.things.pol 1) p b answer s.things.cache blocks io))

-- a write
pub write_piece_same : (r q : Result ℕ Refusal) (v : World) (s u : Objects) (blocks : Blocks)
    (p off : ℕ) (new : List ℕ) (answer : Option (List ℕ)) (io : List Bool) →
    r ≡ q → FetchAgrees v s u r →
    SamePiece s u (write_piece r v s blocks p off new answer io)
    (write_piece q v u blocks p off new answer io)
write_piece_same r q v s u blocks p off new answer io e h =
    subst (λ x. SamePiece s u (write_piece r v s blocks p off new answer io)
    (write_piece x v u blocks p off new answer io)) e
    (write_at_same r v s u blocks p off new answer io h)

-- ---- sync

-- states that had another cache, the same in both, before
other_cache : (s u : Objects) (c d : CacheValue) (a b : Piece) →
    SamePiece (with_cache d s) (with_cache d u) a b →
    SamePiece (with_cache c s) (with_cache c u) a b
other_cache s u c d a b h =
    record {
      objects = λ o e. h.objects o (cache_put s u c d o e);
      blocks = h.blocks;
      gave = h.gave;
      after = h.after;
      calls = h.calls;
    }
  where
    -- the same cache put into both
    cache_put : (s u : Objects) (c d : CacheValue) (o : Object) →
        SameAt o (with_cache c s) (with_cache c u) → SameAt o (with_cache d s) (with_cache d u)
    cache_put s u c d o e = grind arith

-- the frames of one cache are written
sync_same_by : (n f written : ℕ) (s u : Objects) (c : CacheValue) (blocks : Blocks)
    (io : List Bool) →
    SamePiece (with_cache c s) (with_cache c u) (sync_from n f written (with_cache c s) blocks io)
    (sync_from n f written (with_cache c u) blocks io)
sync_same_by zero f written s u c blocks io =
    record { objects = λ o h. h; blocks = refl; gave = refl; after = refl; calls = refl }
sync_same_by (suc n) f written s u c blocks io =
    elim (dirty_value (c.frame f)) as
    (λ (x : Option FrameValue). SamePiece (with_cache c s) (with_cache c u)
    (elim x as (λ (y : Option FrameValue). Piece) [
      | None ↦ sync_from n (suc f) written (with_cache c s) blocks io
      | Some value ↦ elim (disk_fails io written) as (λ (b : Bool). Piece) [
        | true ↦ disk_failed (with_cache c s) blocks (suc written)
        | false ↦ sync_from n (suc f) (suc written)
            (with_cache (cleaned f value c) (with_cache c s)) (at value.block value.bytes blocks) io
      ]
    ])
    (elim x as (λ (y : Option FrameValue). Piece) [
      | None ↦ sync_from n (suc f) written (with_cache c u) blocks io
      | Some value ↦ elim (disk_fails io written) as (λ (b : Bool). Piece) [
        | true ↦ disk_failed (with_cache c u) blocks (suc written)
        | false ↦ sync_from n (suc f) (suc written)
            (with_cache (cleaned f value c) (with_cache c u)) (at value.block value.bytes blocks) io
      ]
    ])) [
      | None ↦ sync_same_by n (suc f) written s u c blocks io
      | Some value ↦ elim (disk_fails io written) as
          (λ (b : Bool). SamePiece (with_cache c s) (with_cache c u)
          (elim b as (λ (x : Bool). Piece) [
            | true ↦ disk_failed (with_cache c s) blocks (suc written)
            | false ↦ sync_from n (suc f) (suc written)
                (with_cache (cleaned f value c) (with_cache c s))
                (at value.block value.bytes blocks) io
          ])
          (elim b as (λ (x : Bool). Piece) [
            | true ↦ disk_failed (with_cache c u) blocks (suc written)
            | false ↦ sync_from n (suc f) (suc written)
                (with_cache (cleaned f value c) (with_cache c u))
                (at value.block value.bytes blocks) io
          ])) [
            | true ↦ record {
              objects = λ o h. h;
              blocks = refl;
              gave = refl;
              after = refl;
              calls = refl;
            }
            | false ↦ other_cache s u c (cleaned f value c) _ _
                (sync_same_by n (suc f) (suc written) s u (cleaned f value c)
                (at value.block value.bytes blocks) io)
          ]
    ]

-- a sync on two states with the same cache
pub sync_same : (n f written : ℕ) (s u : Objects) (blocks : Blocks) (io : List Bool) →
    s.things.cache ≡ u.things.cache →
    SamePiece s u (sync_from n f written s blocks io) (sync_from n f written u blocks io)
sync_same n f written s u blocks io e =
    subst (λ c. SamePiece s (with_cache c u) (sync_from n f written s blocks io)
    (sync_from n f written (with_cache c u) blocks io)) e
    (sync_same_by n f written s u s.things.cache blocks io)

-- ---- exit

-- one graft is taken out: the grafts after it
removed_graft_same : (p n q pt : ℕ) (g h : Option GraftValue) (a b : Accounts) → g ≡ h →
    a.graft q pt ≡ b.graft q pt →
    (removed_by p n g a).graft q pt ≡ (removed_by p n h b).graft q pt
removed_graft_same p n q pt g h a b e same = grind (arith, nat_tests)

-- and the accounts
removed_account_same : (p n q : ℕ) (g h : Option GraftValue) (a b : Accounts) → g ≡ h →
    a.acct p ≡ b.acct p → a.acct q ≡ b.acct q →
    (removed_by p n g a).acct q ≡ (removed_by p n h b).acct q
removed_account_same p n q g h a b e own same = grind (arith, nat_tests)

-- all are taken out: the grafts
without_graft_same : (p n q pt : ℕ) (a b : Accounts) →
    ((i : ℕ) → i < n → a.graft p i ≡ b.graft p i) → a.graft q pt ≡ b.graft q pt →
    (without_grafts p n a).graft q pt ≡ (without_grafts p n b).graft q pt
without_graft_same p zero q pt a b grafts same = same
without_graft_same p (suc n) q pt a b grafts same =
    without_graft_same p n q pt (removed p n a) (removed p n b)
    (λ i low. removed_graft_same p n p i (a.graft p n) (b.graft p n) a b (grafts n (omega arith))
    (grafts i (omega arith)))
    (removed_graft_same p n q pt (a.graft p n) (b.graft p n) a b (grafts n (omega arith)) same)

-- and the accounts
without_account_same : (p n q : ℕ) (a b : Accounts) →
    ((i : ℕ) → i < n → a.graft p i ≡ b.graft p i) → a.acct p ≡ b.acct p → a.acct q ≡ b.acct q →
    (without_grafts p n a).acct q ≡ (without_grafts p n b).acct q
without_account_same p zero q a b grafts own same = same
without_account_same p (suc n) q a b grafts own same =
    without_account_same p n q (removed p n a) (removed p n b)
    (λ i low. removed_graft_same p n p i (a.graft p n) (b.graft p n) a b (grafts n (omega arith))
    (grafts i (omega arith)))
    (removed_account_same p n p (a.graft p n) (b.graft p n) a b (grafts n (omega arith)) own own)
    (removed_account_same p n q (a.graft p n) (b.graft p n) a b (grafts n (omega arith)) own same)

-- the account is closed
closed_same : (p q : ℕ) (a b : Accounts) → a.acct p ≡ b.acct p → a.acct 0 ≡ b.acct 0 →
    a.acct q ≡ b.acct q →
    (account_closed p a).acct q ≡ (account_closed p b).acct q
closed_same p q a b own root same = grind (arith, nat_tests)

-- an exit keeps what is the same in two states
exit_keeps : (s u : Objects) (p : ℕ) →
    ((i : ℕ) → i < 16 → s.accounts.graft p i ≡ u.accounts.graft p i) →
    s.accounts.acct p ≡ u.accounts.acct p →
    s.accounts.acct 0 ≡ u.accounts.acct 0 → (blocks : Blocks) →
    Keeps s u (exit_piece s p blocks).objects (exit_piece u p blocks).objects
exit_keeps s u p grafts own root blocks (Graft q pt) h =
    (without_graft_same p 16 q pt s.accounts u.accounts grafts h.0, h.1)
exit_keeps s u p grafts own root blocks (Acct q) h =
    closed_same p q (without_grafts p 16 s.accounts) (without_grafts p 16 u.accounts)
    (without_account_same p 16 p s.accounts u.accounts grafts own own)
    (without_account_same p 16 0 s.accounts u.accounts grafts own root)
    (without_account_same p 16 q s.accounts u.accounts grafts own h)
exit_keeps s u p grafts own root blocks (Cell q k) h = cc
exit_keeps s u p grafts own root blocks (OpenFile q k) h = cc
exit_keeps s u p grafts own root blocks Queue h = (
  ap (λ rows. filter (λ (r : QueueRow). not (r.process == p)) rows) h.0,
  ap (λ pairs. handlers_without_process p pairs) h.1,
)
exit_keeps s u p grafts own root blocks Cache h =
    ap (λ (c : CacheValue). (things_without p (record (s.things) { cache = c })).cache) h
exit_keeps s u p grafts own root blocks (Lock l) h = cc
exit_keeps s u p grafts own root blocks (Pol k) h = h

-- an exit
pub exit_same : (s u : Objects) (p : ℕ) (blocks : Blocks) →
    ((i : ℕ) → i < 16 → s.accounts.graft p i ≡ u.accounts.graft p i) →
    s.accounts.acct p ≡ u.accounts.acct p →
    s.accounts.acct 0 ≡ u.accounts.acct 0 →
    SamePiece s u (exit_piece s p blocks) (exit_piece u p blocks)
exit_same s u p blocks grafts own root =
    record {
      objects = exit_keeps s u p grafts own root blocks;
      blocks = refl;
      gave = refl;
      after = refl;
      calls = refl;
    }
