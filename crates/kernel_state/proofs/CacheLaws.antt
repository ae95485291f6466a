-- What a change of the rows and of the memory makes of the cache.
use Rattle.std.proofs.Common.{◌≡◌, ℕ, ◌+◌, ◌*◌, ◌<◌, ◌≤◌, ◌==◌, true, false, cond, List, ◌++◌}
use Rattle.std.proofs.Common.{length, take, drop, set, option_map, Option, Some, None, refl, arith}
use Rattle.std.proofs.Common.{sym, ◌∙◌, ap, inl, inr}
use mathlib.Core.Path.{fun_ext}
use Rattle.std.proofs.lemmas.Bool.{cases_lt, cases_eq}
use Rattle.std.proofs.lemmas.Bool.Decides.{nat_tests}
use Rattle.std.proofs.lemmas.List.{get_or-set_same, get_or-set_other, get_or_past}
use Rattle.kernel_data.specs.declared.FrameRow.{FrameRow}
use Rattle.kernel_data.specs.Objects.{FrameValue, CacheValue, at}
use Rattle.kernel_model.specs.Fetch as fetches
use Rattle.kernel_model.specs.Fetch.{new_frame, bytes_with, patched, with_patch, cleaned, newest, replaced}
use Rattle.buffer_cache.specs.Frames.{Frames, row_at, in_use, with_row, filled, filled_row, swapped, IsFrames}
use Rattle.kernel_state.specs.CacheViews.{frame_bytes, value_with, frame_value, cache_value}
use Rattle.kernel_state.proofs.Memory.{written, frame_same, frame_patched, frame_filled}

-- a frame in use is one of the 64
pub used_below : (c : Frames) (f : ℕ) → IsFrames c → in_use f c ≡ true → f < 64
used_below c f h is = let below = h.below f is in let most = h.most in omega arith

-- a frame with its bytes as they were
same_value : (m n : List ℕ) (g : ℕ) (rows : List (Option FrameRow)) → length rows ≡ 64 →
    (g < 64 → frame_bytes n g ≡ frame_bytes m g)
    → frame_value n g (row_at rows g) ≡ frame_value m g (row_at rows g)
same_value m n g rows len same =
    elim (cases_lt g 64) [
      | inl less ↦ ap (λ bytes. option_map (value_with bytes) (row_at rows g)) (same less)
      | inr past ↦
          let none : row_at rows g ≡ None = get_or_past rows g None (omega arith) in
          ap (λ (o : Option FrameRow). frame_value n g o) none
          ∙ sym (ap (λ (o : Option FrameRow). frame_value m g o) none)
    ]

-- a frame, once one of them changed
frame_by : (rows : List (Option FrameRow)) (m n : List ℕ) (f g : ℕ) (o : Option FrameRow) → f < length rows
    → ((g ≡ f → ⊥) → frame_value n g (row_at rows g) ≡ frame_value m g (row_at rows g))
    → frame_value n g (row_at (set rows f o) g) ≡ cond (g == f) (frame_value n f o) (frame_value m g (row_at rows g))
frame_by rows m n f g o inside other =
    elim (cases_eq g f) [
      | inl one ↦
          let test : (g == f) ≡ true = grind (arith, nat_tests, one) in
          ap (λ h. frame_value n h (row_at (set rows f o) h)) one ∙ ap
          (λ (r : Option FrameRow). frame_value n f r) (get_or-set_same rows f o None inside)
          ∙ sym (ap (λ b. cond b (frame_value n f o) (frame_value m g (row_at rows g))) test)
      | inr apart ↦
          let test : (g == f) ≡ false = grind (arith, nat_tests, apart) in
          ap (λ (r : Option FrameRow). frame_value n g r) (get_or-set_other rows f g o None apart) ∙ other apart
          ∙ sym (ap (λ b. cond b (frame_value n f o) (frame_value m g (row_at rows g))) test)
    ]

-- the cache, once a frame changed
cache_by : (c : Frames) (m n : List ℕ) (f : ℕ) (o : Option FrameRow) (v : Option FrameValue)
    (order : List ℕ) → IsFrames c → f < 64
    → ((g : ℕ) → g < 64 → (g ≡ f → ⊥) → frame_bytes n g ≡ frame_bytes m g) → frame_value n f o ≡ v
    → cache_value (record { rows = set c.rows f o; order = order; count = c.count }) n
    ≡ record { frame = at f v (cache_value c m).frame; lru = order }
cache_by c m n f o v order h less same is =
    let inside : f < length c.rows = let len = h.rows in omega arith in
    ap (λ (frame : ℕ → Option FrameValue). let x : CacheValue = record { frame = frame; lru = order } in x)
    (fun_ext (λ g. frame_by c.rows m n f g o inside
    (λ apart. same_value m n g c.rows h.rows (λ below. same g below apart))))
    ∙ ap (λ (w : Option FrameValue). let x : CacheValue =
    record { frame = at f w (cache_value c m).frame; lru = order } in x) is

-- a clean frame
clean_value : (m : List ℕ) (f : ℕ) (o : Option FrameRow) (x : FrameValue) → frame_value m f o ≡ Some x
    → frame_value m f (option_map (λ (r : FrameRow). record r { dirty = false }) o) ≡ Some (record x { dirty = false })
clean_value m f None x is = absurd (cc)
clean_value m f (Some r) x is =
    ap (λ (o : Option FrameValue). option_map (λ (v : FrameValue). record v { dirty = false }) o) is

-- a frame is clean
pub cleaned_is : (c d : Frames) (m : List ℕ) (f : ℕ) (x : FrameValue) → IsFrames c →
    in_use f c ≡ true → d ≡ with_row f (λ (r : FrameRow). record r { dirty = false }) c
    → (cache_value c m).frame f ≡ Some x → cache_value d m ≡ cleaned f x (cache_value c m)
cleaned_is c d m f x h was is held =
    ap (λ (w : Frames). cache_value w m) is
    ∙ cache_by c m m f (option_map (λ (r : FrameRow). record r { dirty = false }) (row_at c.rows f))
    (Some (record x { dirty = false })) c.order h (used_below c f h was) (λ g less apart. refl)
    (clean_value m f (row_at c.rows f) x held)

-- a frame with bytes put in
patch_value : (m n new : List ℕ) (f off : ℕ) (o : Option FrameRow) →
    frame_bytes n f ≡ bytes_with off new (frame_bytes m f)
    → frame_value n f (option_map (λ (r : FrameRow). record r { dirty = true }) o) ≡ patched off new (frame_value m f o)
patch_value m n new f off None is = refl
patch_value m n new f off (Some r) is = ap (λ bytes. Some (value_with bytes (record r { dirty = true }))) is

-- bytes are put into a frame
pub patched_is : (c d : Frames) (m n new : List ℕ) (f off : ℕ) → IsFrames c → length m ≡ 524288 →
    in_use f c ≡ true → off + length new ≤ 512
    → d ≡ with_row f (λ (r : FrameRow). record r { dirty = true }) c →
    n ≡ take (512 * f + off) m ++ new ++ drop (512 * f + off + length new) m
    → cache_value d n ≡ with_patch f off new (cache_value c m)
patched_is c d m n new f off h size was fits is memory =
    let less = used_below c f h was in
    ap (λ (w : Frames). cache_value w n) is ∙ ap
    (λ w. cache_value (with_row f (λ (r : FrameRow). record r { dirty = true }) c) w) memory
    ∙ cache_by c m (written (512 * f + off) new m) f
    (option_map (λ (r : FrameRow). record r { dirty = true }) (row_at c.rows f))
    (patched off new (frame_value m f (row_at c.rows f))) c.order h less
    (λ g below apart. frame_same m new (512 * f + off) f g size less below apart (omega arith) (omega arith))
    (patch_value m (written (512 * f + off) new m) new f off (row_at c.rows f)
    (frame_patched m new f off size less fits))

-- a frame is filled
pub filled_is : (c d : Frames) (m n new : List ℕ) (f owner block : ℕ) → IsFrames c →
    length m ≡ 524288 → f < c.count → length new ≡ 512
    → d ≡ filled f (filled_row f owner block) c → n ≡ take (512 * f) m ++ new ++ drop (512 * f + 512) m
    → cache_value d n ≡ fetches.filled f (new_frame owner block new) (cache_value c m)
filled_is c d m n new f owner block h size below long is memory =
    let less : f < 64 = let most = h.most in omega arith in
    let as_written : take (512 * f) m ++ new ++ drop (512 * f + 512) m ≡ written (512 * f) new m =
    ap (λ k. take (512 * f) m ++ new ++ drop (512 * f + k) m) (sym long) in
    let here : frame_bytes (written (512 * f) new m) f ≡ new =
    ap (λ w. frame_bytes w f) (sym as_written) ∙ frame_filled m new f size less long in
    ap (λ (w : Frames). cache_value w n) is
    ∙ ap (λ w. cache_value (filled f (filled_row f owner block) c) w) (memory ∙ as_written)
    ∙ cache_by c m (written (512 * f) new m) f (Some (filled_row f owner block))
    (Some (new_frame owner block new)) (newest f c.order) h less
    (λ g under apart. frame_same m new (512 * f) f g size less under apart (omega arith)
    (omega arith)) (ap (λ bytes. Some (value_with bytes (filled_row f owner block))) here)

-- a frame is filled, once it changed places with another one
pub replaced_is : (b c d : Frames) (m n new : List ℕ) (f g owner block : ℕ) → IsFrames b →
    length m ≡ 524288 → in_use f b ≡ true → length new ≡ 512 → c ≡ swapped f g b
    → IsFrames c → d ≡ filled f (filled_row f owner block) c → n ≡ take (512 * f) m ++ new ++ drop (512 * f + 512) m
    → cache_value d n ≡ replaced f g (new_frame owner block new) (cache_value b m)
replaced_is b c d m n new f g owner block h size was long first k is memory =
    let count : c.count ≡ b.count = ap (λ (w : Frames). w.count) first in
    let below : f < c.count = let less = h.below f was in omega arith in
    filled_is c d m n new f owner block k size below long is memory
    ∙ ap (λ (w : Frames). fetches.filled f (new_frame owner block new) (cache_value w m)) first
