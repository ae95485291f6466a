-- What holds of a state and the disk's blocks, and stays so when a dirty frame is written, holds
-- after a sync.
use Rattle.std.specs.Prelude.{◌≡◌, ℕ, zero, suc, ◌<◌, Bool, true, false, List, Option, None, Some}
use Rattle.std.proofs.Common.{arith, refl}
use Rattle.std.proofs.lemmas.Bool.Decides.{nat_tests}
use Rattle.kernel_model.specs.World.{World, Blocks}
use Rattle.kernel_model.specs.Objects.{Objects, CacheValue, FrameValue, at}
use Rattle.kernel_model.specs.Meaning.{Piece, disk_fails}
use Rattle.kernel_model.specs.Fetch.{cleaned, dirty_value}
use Rattle.kernel_model.specs.FilePieces.{with_cache, disk_failed, sync_from}
use Rattle.kernel_model.specs.Sound.{IsSoundStore, HasWholeBlocks}
use Rattle.call_laws.specs.SoundCaches.{cache_of_store, sound_cleaned}
use Rattle.call_laws.specs.SoundStores.{store_with_cache}
use Rattle.call_laws.specs.SoundFetches.{FramesFit, whole_written}

-- a dirty frame is one that is in use
pub dirty_in_use : (x : Option FrameValue) (value : FrameValue) → dirty_value x ≡ Some value →
    x ≡ Some value
dirty_in_use None value h = cc
dirty_in_use (Some y) value h = grind arith

-- what stays so when a dirty frame is written holds after a sync
pub sync_all : (P : Objects → Blocks → Type 0) →
    ((s : Objects) (blocks : Blocks) (f : ℕ) (value : FrameValue) → P s blocks →
    s.things.cache.frame f ≡ Some value →
    P (with_cache (cleaned f value s.things.cache) s) (at value.block value.bytes blocks)) →
    (n f written : ℕ) (s : Objects) (blocks : Blocks) (io : List Bool) → P s blocks →
    P (sync_from n f written s blocks io).objects (sync_from n f written s blocks io).blocks
sync_all P step zero f written s blocks io h = h
sync_all P step (suc n) f written s blocks io h =
    (elim (dirty_value (s.things.cache.frame f)) as
    (λ (x : Option FrameValue). dirty_value (s.things.cache.frame f) ≡ x →
    P (elim x as (λ (y : Option FrameValue). Piece) [
      | None ↦ sync_from n (suc f) written s blocks io
      | Some value ↦ elim (disk_fails io written) as (λ (b : Bool). Piece) [
        | true ↦ disk_failed s blocks (suc written)
        | false ↦ sync_from n (suc f) (suc written) (with_cache (cleaned f value s.things.cache) s)
            (at value.block value.bytes blocks) io
      ]
    ]).objects
    (elim x as (λ (y : Option FrameValue). Piece) [
      | None ↦ sync_from n (suc f) written s blocks io
      | Some value ↦ elim (disk_fails io written) as (λ (b : Bool). Piece) [
        | true ↦ disk_failed s blocks (suc written)
        | false ↦ sync_from n (suc f) (suc written) (with_cache (cleaned f value s.things.cache) s)
            (at value.block value.bytes blocks) io
      ]
    ]).blocks) [
      | None ↦ λ e. sync_all P step n (suc f) written s blocks io h
      | Some value ↦ λ e. elim (disk_fails io written) as (λ (b : Bool).
          P (elim b as (λ (x : Bool). Piece) [
            | true ↦ disk_failed s blocks (suc written)
            | false ↦ sync_from n (suc f) (suc written)
                (with_cache (cleaned f value s.things.cache) s)
                (at value.block value.bytes blocks) io
          ]).objects
          (elim b as (λ (x : Bool). Piece) [
            | true ↦ disk_failed s blocks (suc written)
            | false ↦ sync_from n (suc f) (suc written)
                (with_cache (cleaned f value s.things.cache) s)
                (at value.block value.bytes blocks) io
          ]).blocks) [
            | true ↦ h
            | false ↦ sync_all P step n (suc f) (suc written)
                (with_cache (cleaned f value s.things.cache) s)
                (at value.block value.bytes blocks) io
                (step s blocks f value h (dirty_in_use (s.things.cache.frame f) value e))
          ]
    ]) refl

-- a sync keeps a store sound
pub sync_store : (v : World) (n f written : ℕ) (s : Objects) (blocks : Blocks) (io : List Bool) →
    IsSoundStore v s → IsSoundStore v (sync_from n f written s blocks io).objects
sync_store v n f written s blocks io h =
    sync_all (λ u after. IsSoundStore v u)
    (λ u after g value k there. store_with_cache v u (cleaned g value u.things.cache) k
    (sound_cleaned v u.things.queue g value u.things.cache (cache_of_store v u k) there))
    n f written s blocks io h

-- a clean frame has the block that it had
cleaned_block : (v : World) (f g : ℕ) (value x : FrameValue) (c : CacheValue) → FramesFit v c →
    c.frame f ≡ Some value →
    (cleaned f value c).frame g ≡ Some x → x.block < v.disk_size
cleaned_block v f g value x c h there e = let a = h f value there in let b : (y : FrameValue) →
    c.frame g ≡ Some y → y.block < v.disk_size = h g in grind (arith, nat_tests)

-- a sync keeps frames on the disk
pub sync_fits : (v : World) (n f written : ℕ) (s : Objects) (blocks : Blocks) (io : List Bool) →
    FramesFit v s.things.cache →
    FramesFit v (sync_from n f written s blocks io).objects.things.cache
sync_fits v n f written s blocks io h =
    sync_all (λ u after. FramesFit v u.things.cache)
    (λ u after g value k there. λ i x e. cleaned_block v g i value x u.things.cache k there e) n
    f written s blocks io h

-- a sync keeps blocks whole
pub sync_whole : (v : World) (n f written : ℕ) (s : Objects) (blocks : Blocks) (io : List Bool) →
    IsSoundStore v s → HasWholeBlocks v blocks →
    HasWholeBlocks v (sync_from n f written s blocks io).blocks
sync_whole v n f written s blocks io h whole =
    (sync_all (λ u after. IsSoundStore v u × HasWholeBlocks v after)
    (λ u after g value k there. (
      store_with_cache v u (cleaned g value u.things.cache) k.0
          (sound_cleaned v u.things.queue g value u.things.cache (cache_of_store v u k.0) there),
      whole_written v value.block value.bytes after k.1 (k.0.frames g value there).bytes,
    ))
    n f written s blocks io (h, whole)).1
