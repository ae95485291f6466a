-- The frames that are looked for: the one that holds a block, and the lowest one that isn't in use.
use Rattle.std.proofs.Common.{◌≡◌, ℕ, zero, suc, ◌≤◌, ◌==◌, true, false, cond, List, [], ◌∷◌}
use Rattle.std.proofs.Common.{length, take, drop, get_or, Option, Some, None, IfSome, IfNone, refl}
use Rattle.std.proofs.Common.{arith, sym, ◌∙◌, ap, add-one}
use Rattle.std.specs.List.{position, position_from}
use Rattle.std.specs.Option.{is_some, is_none}
use Rattle.std.proofs.lemmas.Bool.Decides.{nat_tests}
use Rattle.std.proofs.lemmas.List.{get_or-drop, drop-drop}
use Rattle.std.proofs.lemmas.Iterator.Adapters.{position_from-zero}
use Rattle.kernel_data.specs.declared.FrameRow.{FrameRow}
use Rattle.kernel_model.specs.Needs.{frame_with, frame_of_block, free_frame}
use Rattle.buffer_cache.specs.Frames.{Frames, row_at, in_use, holds, uses, IsFrames}
use Rattle.kernel_state.specs.CacheViews.{frame_value, cache_value}
use Rattle.buffer_cache.proofs.Finding.{holds-row}

-- ---- the frame that holds a block

-- one frame of those that are looked at
look : (m : List ℕ) (b g : ℕ) (o : Option FrameRow) (rest : Option ℕ) →
    (elim (frame_value m g o) as (λ _. Option ℕ) [
      | None ↦ rest
      | Some r ↦ elim (r.block == b) as (λ _. Option ℕ) [ true ↦ Some g | false ↦ rest ]
    ]) ≡ cond (holds b o) (Some g) rest
look m b g None rest = refl
look m b g (Some r) rest =
    elim (r.block == b) as (λ t. (elim t as (λ _. Option ℕ) [ true ↦ Some g | false ↦ rest ])
    ≡ cond t (Some g) rest) [ true ↦ refl | false ↦ refl ]

-- whoever stands in the order and holds the block is found
found_in : (c : Frames) (m : List ℕ) (b f : ℕ) (order : List ℕ) → 1 ≤ uses f order → holds b (row_at c.rows f) ≡ true
    → ((g : ℕ) → holds b (row_at c.rows g) ≡ true → g ≡ f) → frame_with (cache_value c m) b order ≡ Some f
found_in c m b f [] some does one = absurd (omega arith)
found_in c m b f (g ∷ order) some does one =
    look m b g (row_at c.rows g) (frame_with (cache_value c m) b order)
    ∙ (elim (holds b (row_at c.rows g)) as (λ t. holds b (row_at c.rows g) ≡ t →
    cond t (Some g) (frame_with (cache_value c m) b order) ≡ Some f) [
      | true ↦ λ is. ap (λ h. Some h) (one g is)
      | false ↦ λ is.
          let apart : g ≡ f → ⊥ = λ e. let h = ap (λ k. holds b (row_at c.rows k)) e in absurd (cc) in
          found_in c m b f order (grind (arith, nat_tests)) does one
    ] refl)

-- where no frame holds the block, none is found
missing_in : (c : Frames) (m : List ℕ) (b : ℕ) (order : List ℕ) →
    ((g : ℕ) → holds b (row_at c.rows g) ≡ false) → frame_with (cache_value c m) b order ≡ None
missing_in c m b [] none = refl
missing_in c m b (g ∷ order) none =
    look m b g (row_at c.rows g) (frame_with (cache_value c m) b order)
    ∙ ap (λ t. cond t (Some g) (frame_with (cache_value c m) b order)) (none g)
    ∙ missing_in c m b order none

-- one frame alone holds a block
one_holds : (c : Frames) (b f g : ℕ) → IsFrames c → holds b (row_at c.rows f) ≡ true →
    holds b (row_at c.rows g) ≡ true → g ≡ f
one_holds c b f g h first second =
    let x = holds-row b (row_at c.rows f) first in
    let y = holds-row b (row_at c.rows g) second in h.one_frame g f y.0 x.0 y.1 x.1 (y.2 ∙ sym x.2)

-- a frame in use stands in the order of use
stands : (c : Frames) (f : ℕ) → IsFrames c → in_use f c ≡ true → 1 ≤ uses f c.order
stands c f h was = let once : uses f c.order ≡ 1 = h.once f ∙ ap (λ t. cond t 1 0) was in omega arith

-- a row that holds a block is in use
held_used : (b : ℕ) (o : Option FrameRow) → holds b o ≡ true → is_some o ≡ true
held_used b None does = absurd (cc)
held_used b (Some r) does = refl

-- the frame that holds a block
pub find_some : (c : Frames) (m : List ℕ) (b f : ℕ) → IsFrames c →
    holds b (row_at c.rows f) ≡ true → Some f ≡ frame_of_block (cache_value c m) b
find_some c m b f h does =
    sym (found_in c m b f c.order (stands c f h (held_used b (row_at c.rows f) does)) does
    (λ g is. one_holds c b f g h does is))

-- no frame holds a block
pub find_none : (c : Frames) (m : List ℕ) (b : ℕ) → ((f : ℕ) → holds b (row_at c.rows f) ≡ false) →
    None ≡ frame_of_block (cache_value c m) b
find_none c m b none = sym (missing_in c m b c.order none)

pub find_is : (c : Frames) (m : List ℕ) (b : ℕ) (x : Option ℕ) →
    IsFrames c → IfSome x (λ f. holds b (row_at c.rows f) ≡ true) →
    IfNone x ((f : ℕ) → holds b (row_at c.rows f) ≡ false)
    → x ≡ frame_of_block (cache_value c m) b
find_is c m b None h some none = find_none c m b none
find_is c m b (Some f) h some none = find_some c m b f h some

-- where no frame is found, none holds the block
pub none_holds : (c : Frames) (m : List ℕ) (b f g : ℕ) → IsFrames c →
    frame_of_block (cache_value c m) b ≡ None → holds b (row_at c.rows g) ≡ true → g ≡ f
none_holds c m b f g h none does = let some = find_some c m b g h does in absurd (cc)

-- ---- the lowest frame that isn't in use

-- one frame of those that are looked at
pass : (m : List ℕ) (f : ℕ) (o : Option FrameRow) (rest : Option ℕ) →
    (elim (frame_value m f o) as (λ _. Option ℕ) [ None ↦ Some f | Some r ↦ rest ]) ≡ cond (is_none o) (Some f) rest
pass m f None rest = refl
pass m f (Some r) rest = refl

free_from : (c : Frames) (m : List ℕ) (rows : List (Option FrameRow)) (n f : ℕ) → rows ≡ drop f c.rows → n ≤ length rows
    → free_frame (cache_value c m) n f ≡ position_from (λ (r : Option FrameRow). is_none r) f (take n rows)
free_from c m rows zero f is inside = refl
free_from c m [] (suc n) f is inside = absurd (omega arith)
free_from c m (o ∷ rows) (suc n) f is inside =
    let here : row_at c.rows f ≡ o = sym (ap (λ k. get_or c.rows k None) (omega arith))
    ∙ sym (get_or-drop f c.rows 0 None)
    ∙ ap (λ (w : List (Option FrameRow)). get_or w 0 None) (sym is) in
    let rest : rows ≡ drop (suc f) c.rows = ap (λ (w : List (Option FrameRow)). drop 1 w) is
    ∙ drop-drop 1 f c.rows ∙ ap (λ k. drop k c.rows) (add-one f) in
    pass m f (row_at c.rows f) (free_frame (cache_value c m) n (suc f))
    ∙ ap (λ (r : Option FrameRow). cond (is_none r) (Some f)
    (free_frame (cache_value c m) n (suc f))) here
    ∙ ap (λ (x : Option ℕ). cond (is_none o) (Some f) x) (free_from c m rows n (suc f) rest (omega arith))
    ∙ ap (λ k. cond (is_none o) (Some f)
    (position_from (λ (r : Option FrameRow). is_none r) k (take n rows))) (sym (add-one f))

-- the lowest free frame
pub free_is : (c : Frames) (m : List ℕ) (n : ℕ) (x : Option ℕ) → IsFrames c → c.count ≡ n →
    x ≡ position (λ (r : Option FrameRow). is_none r) (take c.count c.rows)
    → x ≡ free_frame (cache_value c m) n 0
free_is c m n x h count is =
    let inside : c.count ≤ length c.rows = let len = h.rows in let most = h.most in omega arith in
    is ∙ position_from-zero (λ (r : Option FrameRow). is_none r) (take c.count c.rows)
    ∙ sym (free_from c m c.rows c.count 0 refl inside)
    ∙ ap (λ k. free_frame (cache_value c m) k 0) count
