-- What holds of a sync by induction over its frames.
use Rattle.std.specs.Prelude.{◌≡◌, ℕ, zero, suc, Bool, true, false, List, Option, Some, None}
use Rattle.std.proofs.Common.{refl}
use Rattle.kernel_model.specs.declared.Reply.TheVariants.{One}
use Rattle.kernel_model.specs.World.{Blocks}
use Rattle.kernel_model.specs.Objects.{Objects, FrameValue, at}
use Rattle.kernel_model.specs.Meaning.{Piece, EndsWith, disk_fails}
use Rattle.kernel_model.specs.Fetch.{cleaned, dirty_value}
use Rattle.kernel_model.specs.FilePieces.{leaves, disk_failed, with_cache, sync_from}

-- what holds in each case of a frame, clean, failed or written, holds of the step
one_frame : (x : Option FrameValue) (b : Bool) (P : Piece →
    Type 0) (clean failed : Piece) (written : FrameValue → Piece) →
    (x ≡ None → P clean) → ((value : FrameValue) → x ≡ Some value → b ≡ true → P failed) →
    ((value : FrameValue) → x ≡ Some value → b ≡ false → P (written value)) →
    P (elim x [ None ↦ clean | Some value ↦ elim b [ true ↦ failed | false ↦ written value ] ])
one_frame None b P clean failed written k l m = k refl
one_frame (Some value) true P clean failed written k l m = l value refl refl
one_frame (Some value) false P clean failed written k l m = m value refl refl

-- what holds at the end, and at a failure, and of the whole where it holds of the rest, holds of a
-- sync
pub sync_steps : (io : List Bool) (Q : (n f written : ℕ) → Objects → Blocks → Piece → Type 0) →
    (ended : (f written : ℕ) (s : Objects) (blocks : Blocks) →
    Q 0 f written s blocks
    (record (leaves s blocks (EndsWith (One written))) { calls = written })) →
    (clean : (n f written : ℕ) (s : Objects) (blocks : Blocks) (x : Piece) →
    dirty_value (s.things.cache.frame f) ≡ None →
    Q n (suc f) written s blocks x → Q (suc n) f written s blocks x) →
    (failed : (n f written : ℕ) (s : Objects) (blocks : Blocks) (value : FrameValue) →
    dirty_value (s.things.cache.frame f) ≡ Some value →
    disk_fails io written ≡ true →
    Q (suc n) f written s blocks (disk_failed s blocks (suc written))) →
    (wrote : (n f written : ℕ) (s : Objects) (blocks : Blocks) (value : FrameValue) (x : Piece) →
    dirty_value (s.things.cache.frame f) ≡ Some value →
    disk_fails io written ≡ false →
    Q n (suc f) (suc written) (with_cache (cleaned f value s.things.cache) s)
    (at value.block value.bytes blocks) x → Q (suc n) f written s blocks x) →
    (n f written : ℕ) (s : Objects) (blocks : Blocks) →
    Q n f written s blocks (sync_from n f written s blocks io)
sync_steps io Q ended clean failed wrote zero f written s blocks = ended f written s blocks
sync_steps io Q ended clean failed wrote (suc n) f written s blocks =
    one_frame (dirty_value (s.things.cache.frame f)) (disk_fails io written)
    (Q (suc n) f written s blocks) (sync_from n (suc f) written s blocks io)
    (disk_failed s blocks (suc written))
    (λ value. sync_from n (suc f) (suc written) (with_cache (cleaned f value s.things.cache) s)
    (at value.block value.bytes blocks) io)
    (λ e. clean n f written s blocks (sync_from n (suc f) written s blocks io) e
    (sync_steps io Q ended clean failed wrote n (suc f) written s blocks))
    (λ value e b. failed n f written s blocks value e b)
    (λ value e b. wrote n f written s blocks value
    (sync_from n (suc f) (suc written) (with_cache (cleaned f value s.things.cache) s)
    (at value.block value.bytes blocks) io) e b
    (sync_steps io Q ended clean failed wrote n (suc f) (suc written)
    (with_cache (cleaned f value s.things.cache) s) (at value.block value.bytes blocks)))
