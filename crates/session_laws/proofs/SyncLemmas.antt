-- A `sync` writes dirty frames back, frame after frame, and changes nothing else.
use Rattle.std.specs.Prelude.{◌≡◌, ◌⊎◌, ℕ, zero, suc, ◌==◌, Bool, true, false, cond, List, Option, Some, None}
use Rattle.std.proofs.Common.{arith, refl, sym, ap, subst, ◌∙◌, inl, inr}
use Rattle.std.proofs.lemmas.Bool.{cases_Bool}
use Rattle.std.proofs.lemmas.Bool.Decides.{nat_tests}
use Rattle.script_model.specs.World.{Blocks}
use Rattle.script_model.specs.Objects.{Objects, FrameValue, CacheValue, at}
use Rattle.script_model.specs.Fetch.{dirty_value, cleaned}
use Rattle.script_model.specs.Meaning.{Piece, disk_fails}
use Rattle.script_model.specs.FilePieces.{with_cache, disk_failed, sync_from}
use Rattle.session_laws.specs.Syncs.{IsWrittenBack, IsHeldDirty, WritesBackAlone, SyncsWriteBackAlone}
use Rattle.call_laws.specs.Syncs.{dirty_in_use}

-- no block stands in two frames
abbrev pub HasOneFrame : CacheValue → Type 0
HasOneFrame c = (f g : ℕ) (x y : FrameValue) → c.frame f ≡ Some x → c.frame g ≡ Some y → x.block ≡ y.block → f ≡ g

-- ---- one frame

-- a clean frame isn't dirty
clean_not_dirty : (x : Option FrameValue) (value other : FrameValue) → x ≡ Some (record value { dirty = false }) →
    dirty_value x ≡ Some other → ⊥
clean_not_dirty x value other e d = no (ap dirty_value (sym e) ∙ d)
  where
    no : None ≡ Some other → ⊥
    no h = cc

-- a frame after one was cleaned: that one, or as it was
data CleanedAt (f g : ℕ) (value : FrameValue) (c : CacheValue) : Type 0 where
  Here : f ≡ g → (cleaned f value c).frame g ≡ Some (record value { dirty = false }) → CleanedAt f g value c
  There : (g == f) ≡ false → (cleaned f value c).frame g ≡ c.frame g → CleanedAt f g value c

cleaned_at : (f g : ℕ) (value : FrameValue) (c : CacheValue) → CleanedAt f g value c
cleaned_at f g value c = elim (cases_Bool (g == f)) [
  | inl same ↦ Here (equal g f same) (ap (λ b. cond b (Some (record value { dirty = false })) (c.frame g)) same)
  | inr other ↦ There other (ap (λ b. cond b (Some (record value { dirty = false })) (c.frame g)) other)
]
  where
    equal : (g f : ℕ) → (g == f) ≡ true → f ≡ g
    equal g f h = grind (arith, nat_tests)

-- cleaning a frame leaves each block in one frame
one_frame_stays : (f : ℕ) (value : FrameValue) (c : CacheValue) → c.frame f ≡ Some value → HasOneFrame c →
    HasOneFrame (cleaned f value c)
one_frame_stays f value c held one g h x y gx hy same =
    one g h (was g x gx).0 (was h y hy).0 (was g x gx).1 (was h y hy).1 ((was g x gx).2 ∙ same ∙ sym (was h y hy).2)
  where
    some_is : (a b : FrameValue) → Some a ≡ Some b → a ≡ b
    some_is a b e = cc

    was : (g : ℕ) (x : FrameValue) → (cleaned f value c).frame g ≡ Some x →
        (u : FrameValue) × (c.frame g ≡ Some u) × (u.block ≡ x.block)
    was g x e = elim (cleaned_at f g value c) [
      | Here is now ↦ (
        value,
        ap c.frame (sym is) ∙ held,
        ap (λ (u : FrameValue). u.block)
            (some_is (record value { dirty = false }) x (sym now ∙ e)),
      )
      | There other now ↦ (x, sym now ∙ e, refl)
    ]

-- ---- all frames

-- nothing was written
none_written : (s : Objects) (blocks : Blocks) (q : Piece) → q.objects ≡ s → q.blocks ≡ blocks →
    WritesBackAlone s blocks q
none_written s blocks q objects disk =
    record {
      elsewhere =
          subst (λ (u : Objects). u ≡ with_cache
          (record (s.things.cache) { frame = u.things.cache.frame }) s) (sym objects) refl;
      frames = λ g. inl (ap (λ (u : Objects). u.things.cache.frame g) objects);
      disk = λ b. inl (ap (λ (d : Blocks). d b) disk);
    }

-- one more was written before
one_written : (s : Objects) (blocks : Blocks) (f : ℕ) (value : FrameValue) (q : Piece) → HasOneFrame s.things.cache →
    dirty_value (s.things.cache.frame f) ≡ Some value →
    WritesBackAlone (with_cache (cleaned f value s.things.cache) s) (at value.block value.bytes blocks) q →
    WritesBackAlone s blocks q
one_written s blocks f value q one dirty h = record { elsewhere = h.elsewhere; frames = frames; disk = disk }
  where
    c : CacheValue
    c = s.things.cache

    mid : Objects
    mid = with_cache (cleaned f value c) s

    held : c.frame f ≡ Some value
    held = dirty_in_use (c.frame f) value dirty

    -- the frame that was cleaned isn't dirty, and no other holds its block
    not_again : (b : List ℕ) → IsHeldDirty mid value.block b → ⊥
    not_again b d = elim (cleaned_at f d.frame value c) [
      | Here is now ↦ clean_not_dirty (mid.things.cache.frame d.frame) value d.value now d.dirty
      | There other now ↦ apart f d.frame other (one f d.frame value d.value held
          (sym now ∙ dirty_in_use (mid.things.cache.frame d.frame) d.value d.dirty) (sym d.block_is))
    ]
      where
        apart : (f g : ℕ) → (g == f) ≡ false → f ≡ g → ⊥
        apart f g h e = grind (arith, nat_tests)

    on_disk : q.blocks value.block ≡ value.bytes
    on_disk = elim (h.disk value.block) [
      | inl same ↦ same ∙ ap (λ b. cond b value.bytes (blocks value.block)) (itself value.block)
      | inr d ↦ absurd (not_again (q.blocks value.block) d)
    ]
      where
        itself : (n : ℕ) → (n == n) ≡ true
        itself n = grind (arith, nat_tests)

    -- what was dirty still was dirty
    was_dirty : (g : ℕ) (x : FrameValue) → dirty_value (mid.things.cache.frame g) ≡ Some x →
        dirty_value (c.frame g) ≡ Some x
    was_dirty g x d = elim (cleaned_at f g value c) [
      | Here is now ↦ absurd (clean_not_dirty (mid.things.cache.frame g) value x now d)
      | There other now ↦ ap dirty_value (sym now) ∙ d
    ]

    frames : (g : ℕ) → (q.objects.things.cache.frame g ≡ c.frame g) ⊎ IsWrittenBack s q g
    frames g = elim (h.frames g) [
      | inl same ↦ elim (cleaned_at f g value c) [
        | Here is now ↦ inr (record {
          value = value;
          dirty = ap (λ i. dirty_value (c.frame i)) (sym is) ∙ dirty;
          clean = same ∙ now;
          on_disk = on_disk;
        })
        | There other now ↦ inl (same ∙ now)
      ]
      | inr w ↦ inr (record {
        value = w.value;
        dirty = was_dirty g w.value w.dirty;
        clean = w.clean;
        on_disk = w.on_disk;
      })
    ]

    disk : (b : ℕ) → (q.blocks b ≡ blocks b) ⊎ IsHeldDirty s b (q.blocks b)
    disk b = elim (h.disk b) [
      | inl same ↦ elim (cases_Bool (b == value.block)) [
        | inl own ↦ inr (record {
          frame = f;
          value = value;
          dirty = dirty;
          block_is = equal b value.block own;
          bytes_are = sym (same ∙ ap (λ x. cond x value.bytes (blocks b)) own);
        })
        | inr other ↦ inl (same ∙ ap (λ x. cond x value.bytes (blocks b)) other)
      ]
      | inr d ↦ inr (record {
        frame = d.frame;
        value = d.value;
        dirty = was_dirty d.frame d.value d.dirty;
        block_is = d.block_is;
        bytes_are = d.bytes_are;
      })
    ]
      where
        equal : (b n : ℕ) → (b == n) ≡ true → n ≡ b
        equal b n h = grind (arith, nat_tests)

-- so it is with the frames behind one
abbrev Rest : (n : ℕ) → List Bool → Type 0
Rest n io = (f written : ℕ) (s : Objects) (blocks : Blocks) → HasOneFrame s.things.cache →
    WritesBackAlone s blocks (sync_from n f written s blocks io)

-- by whether the call of the disk fails
sync_call : (n f written : ℕ) (s : Objects) (blocks : Blocks) (io : List Bool) → HasOneFrame s.things.cache →
    Rest n io → (fails : Bool) (value : FrameValue) → dirty_value (s.things.cache.frame f) ≡ Some value →
    WritesBackAlone s blocks (elim fails as (λ _. Piece) [
      | true ↦ disk_failed s blocks (suc written)
      | false ↦ sync_from n (suc f) (suc written) (with_cache (cleaned f value s.things.cache) s)
          (at value.block value.bytes blocks) io
    ])
sync_call n f written s blocks io one rest true value dirty =
    none_written s blocks (disk_failed s blocks (suc written)) refl refl
sync_call n f written s blocks io one rest false value dirty =
    let mid : Objects = with_cache (cleaned f value s.things.cache) s in
    one_written s blocks f value
    (sync_from n (suc f) (suc written) mid (at value.block value.bytes blocks) io) one dirty
    (rest (suc f) (suc written) mid (at value.block value.bytes blocks)
    (one_frame_stays f value s.things.cache (dirty_in_use (s.things.cache.frame f) value dirty) one))

-- by whether the frame is dirty
sync_frame : (n f written : ℕ) (s : Objects) (blocks : Blocks) (io : List Bool) → HasOneFrame s.things.cache →
    Rest n io → (x : Option FrameValue) → dirty_value (s.things.cache.frame f) ≡ x →
    WritesBackAlone s blocks (elim x as (λ _. Piece) [
      | None ↦ sync_from n (suc f) written s blocks io
      | Some value ↦ elim (disk_fails io written) as (λ _. Piece) [
        | true ↦ disk_failed s blocks (suc written)
        | false ↦ sync_from n (suc f) (suc written) (with_cache (cleaned f value s.things.cache) s)
            (at value.block value.bytes blocks) io
      ]
    ])
sync_frame n f written s blocks io one rest None e = rest (suc f) written s blocks one
sync_frame n f written s blocks io one rest (Some value) e =
    sync_call n f written s blocks io one rest (disk_fails io written) value e

syncs_from : (n : ℕ) (io : List Bool) → Rest n io
syncs_from zero io f written s blocks one = none_written s blocks (sync_from zero f written s blocks io) refl refl
syncs_from (suc n) io f written s blocks one =
    sync_frame n f written s blocks io one (syncs_from n io) (dirty_value (s.things.cache.frame f)) refl

pub syncs_write_back_alone : SyncsWriteBackAlone
syncs_write_back_alone v s blocks p n answer io sound = syncs_from v.frames io 0 0 s blocks sound.one_frame
