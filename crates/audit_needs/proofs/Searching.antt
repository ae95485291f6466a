-- The least number of which something holds, step by step.
use Rattle.std.proofs.Common.{◌≡◌, ℕ, zero, suc, ◌+◌, ◌<◌, Bool, true, false, List, Option, Some, None}
use Rattle.std.proofs.Common.{refl, subst, sym, arith, add-one}
use Rattle.kernel_model.specs.declared.QueueRow.{QueueRow}
use Rattle.kernel_model.specs.Objects.{CacheValue, FrameValue}
use Rattle.kernel_model.specs.Policies.{lives}
use Rattle.kernel_model.specs.Needs.{free_process, free_frame}

-- ---- processes

-- a living process is passed over
pub process_lives : (rows : List QueueRow) (n m p q : ℕ) → n ≡ suc m → q ≡ p + 1 →
    lives rows p ≡ true → free_process rows n p ≡ free_process rows m q
process_lives rows n m p q e f h =
    rw (e, f, add-one)
    (subst (λ (b : Bool). elim b [ true ↦ free_process rows m (suc p) | false ↦ Some p ]
    ≡ free_process rows m (suc p)) (sym h) refl)

-- one that doesn't live is found
pub process_free : (rows : List QueueRow) (n p : ℕ) → 0 < n → lives rows p ≡ false →
    free_process rows n p ≡ Some p
process_free rows zero p some h = absurd (omega arith)
process_free rows (suc m) p some h =
    subst (λ (b : Bool). elim b [ true ↦ free_process rows m (suc p) | false ↦ Some p ] ≡ Some p)
    (sym h) refl

-- none is left
pub process_none : (rows : List QueueRow) (n p : ℕ) → n ≡ 0 → free_process rows n p ≡ None
process_none rows n p e = rw e refl

pub ruleset processes = (process_lives, process_free, process_none)

-- ---- frames

-- a frame in use is passed over
pub frame_used : (c : CacheValue) (n m f g : ℕ) (v : FrameValue) → n ≡ suc m → g ≡ f + 1 →
    c.frame f ≡ Some v → free_frame c n f ≡ free_frame c m g
frame_used c n m f g v e i h =
    rw (e, i, add-one)
    (subst (λ (o : Option FrameValue). elim o [ None ↦ Some f | Some r ↦ free_frame c m (suc f) ]
    ≡ free_frame c m (suc f)) (sym h) refl)

-- one that isn't in use is found
pub frame_free : (c : CacheValue) (n f : ℕ) → 0 < n → c.frame f ≡ None → free_frame c n f ≡ Some f
frame_free c zero f some h = absurd (omega arith)
frame_free c (suc m) f some h =
    subst (λ (o : Option FrameValue). elim o [ None ↦ Some f | Some r ↦ free_frame c m (suc f) ] ≡ Some f)
    (sym h) refl

-- none is left
pub frame_none : (c : CacheValue) (n f : ℕ) → n ≡ 0 → free_frame c n f ≡ None
frame_none c n f e = rw e refl
