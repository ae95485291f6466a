-- `sync`, frame by frame.
use Rattle.std.proofs.Common.{◌≡◌, ℕ, suc, ◌+◌, ◌-◌, ◌<◌, ◌≤◌, Bool, true, false, cond, List, []}
use Rattle.std.proofs.Common.{◌∷◌, ◌++◌, length, Option, Some, None, option_map, refl, arith, sym}
use Rattle.std.proofs.Common.{◌∙◌, ap, subst, append_assoc, add-one, Result, Ok, Err, IfOk, IfErr}
use Rattle.std.proofs.Common.{is_ok}
use Rattle.std.specs.Result.{is_err}
use Rattle.kernel_model.specs.declared.Refusal.TheVariants.{DiskFault}
use Rattle.kernel_model.specs.declared.Reply.TheVariants.{One}
use Rattle.kernel_model.specs.World.{Blocks}
use Rattle.kernel_model.specs.Objects.{Objects, CacheValue, FrameValue, at}
use Rattle.kernel_model.specs.Meaning.{Piece, After, EndsWith, Fails, disk_fails}
use Rattle.kernel_model.specs.Fetch.{cleaned, dirty_value, bytes_of}
use Rattle.kernel_model.specs.FilePieces.{sync_from, with_cache, disk_failed, leaves}
use Rattle.kernel_state.specs.Calls.{Knows}
use Rattle.call_pieces.specs.Matching.{PieceMatches, PieceLeaves}
use Rattle.call_pieces.proofs.Logs.{fails_is, length_more}

-- the block of what is dirty
abbrev pub dirty_block_of : Option FrameValue → Option ℕ
dirty_block_of x = option_map (λ (v : FrameValue). v.block) (dirty_value x)

-- a frame is clean, or is dirty and has this block
clean_or_dirty : (v : FrameValue) (test : Bool) → v.dirty ≡ test →
    dirty_block_of (Some v) ≡ (elim test as (λ _. Option ℕ) [ true ↦ Some v.block | false ↦ None ])
clean_or_dirty v true is =
    ap (λ b. option_map (λ (x : FrameValue). x.block)
    (let y : Option FrameValue = cond b (Some v) None in y)) is
clean_or_dirty v false is =
    ap (λ b. option_map (λ (x : FrameValue). x.block)
    (let y : Option FrameValue = cond b (Some v) None in y)) is

-- what isn't dirty
clean_flag : (v : FrameValue) (test : Bool) → v.dirty ≡ test → None ≡ dirty_block_of (Some v) → test ≡ false
clean_flag v true is none = let some = clean_or_dirty v true is in absurd (cc)
clean_flag v false is none = refl

-- what is dirty
dirty_flag : (v : FrameValue) (test : Bool) (b : ℕ) → v.dirty ≡ test →
    dirty_block_of (Some v) ≡ Some b → (test ≡ true) × (v.block ≡ b)
dirty_flag v true b is some = let known = clean_or_dirty v true is in (refl, cc)
dirty_flag v false b is some = let none = clean_or_dirty v false is in absurd (cc)

pub left_as : (q r : Piece) (s : Objects) (gave : Option (List ℕ)) (after : After) (n : ℕ) → q ≡ r →
    PieceLeaves r s gave after n → PieceLeaves q s gave after n
left_as q r s gave after n is left = subst (λ (x : Piece). PieceLeaves x s gave after n) (sym is) left

-- a piece that left this came to it, where the disk tells the blocks that the piece has in other words
pub came_by : (q r : Piece) (s : Objects) (known : Option (List (List ℕ))) (gave : Option (List ℕ))
    (after : After) (n : ℕ) → q ≡ r → Knows known r.blocks → PieceLeaves q s gave after n
    → PieceMatches q s known gave after n
came_by q r s known gave after n is tells left =
    record {
      objects = left.objects;
      blocks = subst (λ (x : Piece). Knows known x.blocks) (sym is) tells;
      bytes = left.bytes;
      next = left.next;
      calls_made = left.calls_made;
    }

-- a dirty frame
pub record IsDirty (c : CacheValue) (f b : ℕ) : Type 0 where
  pub value : FrameValue
  pub here : c.frame f ≡ Some value
  pub dirty : dirty_value (c.frame f) ≡ Some value
  pub block : value.block ≡ b
  pub bytes : value.bytes ≡ bytes_of c f

is_dirty_by : (c : CacheValue) (f b : ℕ) (o : Option FrameValue) → c.frame f ≡ o →
    dirty_block_of o ≡ Some b → IsDirty c f b
is_dirty_by c f b None held is = absurd (cc)
is_dirty_by c f b (Some v) held is =
    let flag = dirty_flag v v.dirty b refl is in
    record {
      value = v;
      here = held;
      dirty =
          ap (λ (o : Option FrameValue). dirty_value o) held
          ∙ ap (λ t. let y : Option FrameValue = cond t (Some v) None in y) flag.0;
      block = flag.1;
      bytes = sym (ap (λ (o : Option FrameValue). elim o as (λ _. List ℕ) [ None ↦ [] | Some r ↦ r.bytes ]) held);
    }

pub is_dirty : (c : CacheValue) (f b : ℕ) → dirty_block_of (c.frame f) ≡ Some b → IsDirty c f b
is_dirty c f b is = is_dirty_by c f b (c.frame f) refl is

-- what is clean isn't written
not_dirty : (o : Option FrameValue) → None ≡ dirty_block_of o → dirty_value o ≡ None
not_dirty None is = refl
not_dirty (Some v) is = ap (λ t. let y : Option FrameValue = cond t (Some v) None in y) (clean_flag v v.dirty refl is)

-- one frame that is clean
step_clean : (n f written : ℕ) (s : Objects) (blocks : Blocks) (io : List Bool) →
    None ≡ dirty_block_of (s.things.cache.frame f)
    → sync_from (suc n) f written s blocks io ≡ sync_from n (suc f) written s blocks io
step_clean n f written s blocks io is =
    ap (λ (o : Option FrameValue). elim o as (λ _. Piece) [
      | None ↦ sync_from n (suc f) written s blocks io
      | Some value ↦ elim (disk_fails io written) as (λ _. Piece) [
        | true ↦ disk_failed s blocks (suc written)
        | false ↦ sync_from n (suc f) (suc written) (with_cache (cleaned f value s.things.cache) s)
            (at value.block value.bytes blocks) io
      ]
    ]) (not_dirty (s.things.cache.frame f) is)

-- one frame that is dirty
step_dirty : (n f b written : ℕ) (s : Objects) (blocks : Blocks) (io : List Bool)
    (d : IsDirty s.things.cache f b) (fails : Bool) → disk_fails io written ≡ fails
    → sync_from (suc n) f written s blocks io ≡ (elim fails as (λ _. Piece) [
      | true ↦ disk_failed s blocks (suc written)
      | false ↦ sync_from n (suc f) (suc written) (with_cache (cleaned f d.value s.things.cache) s)
          (at d.value.block d.value.bytes blocks) io
    ])
step_dirty n f b written s blocks io d fails is =
    ap (λ (o : Option FrameValue). elim o as (λ _. Piece) [
      | None ↦ sync_from n (suc f) written s blocks io
      | Some value ↦ elim (disk_fails io written) as (λ _. Piece) [
        | true ↦ disk_failed s blocks (suc written)
        | false ↦ sync_from n (suc f) (suc written) (with_cache (cleaned f value s.things.cache) s)
            (at value.block value.bytes blocks) io
      ]
    ]) d.dirty
    ∙ ap (λ t. elim t as (λ _. Piece) [
      | true ↦ disk_failed s blocks (suc written)
      | false ↦ sync_from n (suc f) (suc written) (with_cache (cleaned f d.value s.things.cache) s)
          (at d.value.block d.value.bytes blocks) io
    ]) is

-- What is left of a sync before frame f, once so many frames were written: whatever the blocks were
-- at first, it goes on from some that the disk tells now, if it told those.
pub record Midway (n f written : ℕ) (first now : Objects) (known told_now : Option (List (List ℕ)))
    (log : List Bool) : Type 0 where
  pub count : length log ≡ written
  pub few : written ≤ f
  pub rest : (blocks : Blocks) (io : List Bool)
      → (after : Blocks) × (Knows known blocks → Knows told_now after) × (sync_from n 0 0 first
      blocks (log ++ io) ≡ sync_from (n - f) f written now after (log ++ io))

-- at first
pub begins : (n : ℕ) (s : Objects) (known : Option (List (List ℕ))) → Midway n 0 0 s s known known []
begins n s known =
    record {
      count = refl;
      few = omega arith;
      rest = λ blocks io. (
        blocks,
        (λ tells. tells),
        let same : n ≡ n - 0 = omega arith in
            ap (λ k. sync_from k 0 0 s blocks io) same,
      );
    }

-- one frame less
one_less : (n f written : ℕ) (s : Objects) (blocks : Blocks) (io : List Bool) → f < n →
    sync_from (n - f) f written s blocks io ≡ sync_from (suc (n - (f + 1))) f written s blocks io
one_less n f written s blocks io less =
    let fewer : n - f ≡ suc (n - (f + 1)) = omega arith in
    ap (λ k. sync_from k f written s blocks io) fewer

-- past a frame that is clean
pub past_clean : (n f written : ℕ) (first now : Objects) (known told_now : Option (List (List ℕ)))
    (log : List Bool) → f < n → Midway n f written first now known told_now log
    → None ≡ dirty_block_of (now.things.cache.frame f) → Midway n (f + 1) written first now known told_now log
past_clean n f written first now known told_now log less m clean =
    let bound : written ≤ f = m.few in
    record {
      count = m.count;
      few = omega arith;
      rest = λ blocks io.
          let so = m.rest blocks io in (
            so.0,
            so.1,
            so.2 ∙ one_less n f written now so.0 (log ++ io) less
                ∙ step_clean (n - (f + 1)) f written now so.0 (log ++ io) clean
                ∙ ap (λ k. sync_from (n - (f + 1)) k written now so.0 (log ++ io)) (sym (add-one f)),
          );
    }

-- past a frame that was written
pub past_written : (n f b written : ℕ) (first now next : Objects) (known told_now
    told_next : Option (List (List ℕ))) (log more : List Bool) (failed : Bool) → f < n
    → Midway n f written first now known told_now log →
    dirty_block_of (now.things.cache.frame f) ≡ Some b → more ≡ log ++ failed ∷ [] →
    failed ≡ false
    → ((x : FrameValue) → now.things.cache.frame f ≡ Some x → next ≡ with_cache (cleaned f x now.things.cache) now)
    → ((blocks : Blocks) → Knows told_now blocks →
    Knows told_next (at b (bytes_of now.things.cache f) blocks)) →
    Midway n (f + 1) (written + 1) first next known told_next more
past_written n f b written first now next known told_now told_next log more failed less m dirty
    noted fine cleans tells_next =
    let d = is_dirty now.things.cache f b dirty in
    let bound : written ≤ f = m.few in
    record {
      count = length_more more log failed written noted m.count;
      few = omega arith;
      rest = λ blocks io.
          let so = m.rest blocks (failed ∷ io) in
          let whole : more ++ io ≡ log ++ (failed ∷ io) = ap (λ w. w ++ io) noted ∙ append_assoc log (failed ∷ []) io in
          let after : Blocks = at b (bytes_of now.things.cache f) so.0 in
          let result = fails_is more log io failed written noted m.count ∙ fine in (
            after,
            (λ tells. tells_next so.0 (so.1 tells)),
            ap (λ w. sync_from n 0 0 first blocks w) whole ∙ so.2
                ∙ ap (λ w. sync_from (n - f) f written now so.0 w) (sym whole)
                ∙ one_less n f written now so.0 (more ++ io) less
                ∙ step_dirty (n - (f + 1)) f b written now so.0 (more ++ io) d false result
                ∙ ap (λ (x : Objects). sync_from (n - (f + 1)) (suc f) (suc written) x (at
                d.value.block d.value.bytes so.0) (more ++ io)) (sym (cleans d.value d.here))
                ∙ ap (λ k. sync_from (n - (f + 1)) (suc f) (suc written) next
                (at k d.value.bytes so.0) (more ++ io)) d.block
                ∙ ap (λ w. sync_from (n - (f + 1)) (suc f) (suc written) next (at b w so.0) (more ++ io)) d.bytes
                ∙ ap (λ k. sync_from (n - (f + 1)) k (suc written) next after (more ++ io)) (sym (add-one f))
                ∙ ap (λ k. sync_from (n - (f + 1)) (f + 1) k next after (more ++ io)) (sym (add-one written)),
          );
    }

-- a frame whose write failed
failed_is : (n f b written : ℕ) (first now : Objects) (known told_now : Option (List (List ℕ)))
    (log more : List Bool) (failed : Bool) → f < n
    → (m : Midway n f written first now known told_now log) →
    dirty_block_of (now.things.cache.frame f) ≡ Some b →
    more ≡ log ++ failed ∷ [] → failed ≡ true
    → (blocks : Blocks) (io : List Bool) → sync_from n 0 0 first blocks (more ++ io)
    ≡ disk_failed now (m.rest blocks (failed ∷ io)).0 (suc written)
failed_is n f b written first now known told_now log more failed less m dirty noted fine blocks io =
    let d = is_dirty now.things.cache f b dirty in
    let so = m.rest blocks (failed ∷ io) in
    let whole : more ++ io ≡ log ++ (failed ∷ io) = ap (λ w. w ++ io) noted ∙ append_assoc log (failed ∷ []) io in
    let result = fails_is more log io failed written noted m.count ∙ fine in
    ap (λ w. sync_from n 0 0 first blocks w) whole ∙ so.2
    ∙ ap (λ w. sync_from (n - f) f written now so.0 w) (sym whole)
    ∙ one_less n f written now so.0 (more ++ io) less
    ∙ step_dirty (n - (f + 1)) f b written now so.0 (more ++ io) d true result

pub left_failed : (n f b written : ℕ) (first now next : Objects)
    (known told_now : Option (List (List ℕ))) (log more : List Bool) (failed : Bool) → f < n
    → Midway n f written first now known told_now log →
    dirty_block_of (now.things.cache.frame f) ≡ Some b → more ≡ log ++ failed ∷ [] →
    failed ≡ true → next ≡ now
    → (blocks : Blocks) (io : List Bool) → PieceLeaves (sync_from n 0 0 first blocks
    (more ++ io)) next None (Fails DiskFault) (length more)
left_failed n f b written first now next known told_now log more failed less m dirty noted fine same blocks io =
    left_as (sync_from n 0 0 first blocks (more ++ io)) (disk_failed now
    (m.rest blocks (failed ∷ io)).0 (suc written)) next None (Fails DiskFault) (length more)
    (failed_is n f b written first now known told_now log more failed less m dirty noted fine blocks io)
    (record {
      objects = same;
      bytes = refl;
      next = refl;
      calls_made = length_more more log failed written noted m.count ∙ add-one written;
    })

pub ends_failed : (n f b written : ℕ) (first now next : Objects) (known told_now
    told_next : Option (List (List ℕ))) (log more : List Bool) (failed : Bool) → f < n
    → Midway n f written first now known told_now log →
    dirty_block_of (now.things.cache.frame f) ≡ Some b → more ≡ log ++ failed ∷ [] →
    failed ≡ true → next ≡ now
    → ((blocks : Blocks) → Knows told_now blocks → Knows told_next blocks) →
    (blocks : Blocks) (io : List Bool) → Knows known blocks
    → PieceMatches (sync_from n 0 0 first blocks (more ++ io)) next told_next None (Fails DiskFault) (length more)
ends_failed n f b written first now next known told_now told_next log more failed less m dirty noted
    fine same tells_next blocks io tells =
    let so = m.rest blocks (failed ∷ io) in
    came_by (sync_from n 0 0 first blocks (more ++ io)) (disk_failed now so.0 (suc written)) next
    told_next None (Fails DiskFault) (length more)
    (failed_is n f b written first now known told_now log more failed less m dirty noted fine blocks
    io) (tells_next so.0 (so.1 tells))
    (left_failed n f b written first now next known told_now log more failed less m dirty noted fine same blocks io)

-- all frames were looked at
well_is : (n f written : ℕ) (first now : Objects) (known told_now : Option (List (List ℕ)))
    (log : List Bool) → f ≡ n → (m : Midway n f written first now known told_now log)
    → (blocks : Blocks) (io : List Bool) → sync_from n 0 0 first blocks (log ++ io)
    ≡ record (leaves now (m.rest blocks io).0 (EndsWith (One written))) { calls = written }
well_is n f written first now known told_now log all m blocks io =
    let so = m.rest blocks io in
    let none : n - f ≡ 0 = omega arith in
    so.2 ∙ ap (λ k. sync_from k f written now so.0 (log ++ io)) none

pub left_well : (n f written : ℕ) (first now : Objects) (known told_now : Option (List (List ℕ)))
    (log : List Bool) → f ≡ n → Midway n f written first now known told_now log
    → (blocks : Blocks) (io : List Bool) → PieceLeaves (sync_from n 0 0 first blocks
    (log ++ io)) now None (EndsWith (One written)) (length log)
left_well n f written first now known told_now log all m blocks io =
    left_as (sync_from n 0 0 first blocks (log ++ io))
    (record (leaves now (m.rest blocks io).0 (EndsWith (One written))) { calls = written }) now
    None (EndsWith (One written)) (length log)
    (well_is n f written first now known told_now log all m blocks io)
    (record { objects = refl; bytes = refl; next = refl; calls_made = m.count })

pub ends_well : (n f written : ℕ) (first now : Objects) (known told_now : Option (List (List ℕ)))
    (log : List Bool) → f ≡ n → Midway n f written first now known told_now log
    → (blocks : Blocks) (io : List Bool) → Knows known blocks → PieceMatches (sync_from n 0 0 first
    blocks (log ++ io)) now told_now None (EndsWith (One written)) (length log)
ends_well n f written first now known told_now log all m blocks io tells =
    let so = m.rest blocks io in
    came_by (sync_from n 0 0 first blocks (log ++ io))
    (record (leaves now so.0 (EndsWith (One written))) { calls = written }) now told_now None
    (EndsWith (One written)) (length log)
    (well_is n f written first now known told_now log all m blocks io) (so.1 tells)
    (left_well n f written first now known told_now log all m blocks io)

-- what holds of a failure, and of a success
pub of_err : {T E : Type 0} (r : Result T E) (P : Type 0) → is_err r ≡ true → IfErr r (λ _. P) → P
of_err (Ok x) P is h = absurd (cc)
of_err (Err e) P is h = h

pub of_ok : {T E : Type 0} (r : Result T E) (P : Type 0) → is_ok r ≡ true → IfOk r (λ _. P) → P
of_ok (Ok x) P is h = h
of_ok (Err e) P is h = absurd (cc)
