-- What the calls that change a store say of it before and after.
use Rattle.std.specs.Prelude.{◌≡◌, ℕ}
use Rattle.kernel_data.specs.Objects.{Objects, Things, CacheValue, with_things}
use Rattle.kernel_model.specs.FilePieces.{with_cache}
use Rattle.kernel_data.specs.Policies.{lives}
use Rattle.kernel_state.specs.declared.Store.{Store}
use Rattle.kernel_state.specs.Stores.{objects_of, world_of_store, cache_of, queue_of, views_of, SegmentsStay}

-- The objects change in this way, and nothing else does: the same processes live, and the policies
-- on the shelf, the world and the memory stay.
pub record Changes {B : Type 0} {P : _} (change : Objects → Objects) (old new : Store B P) :
    Type 0 where
  pub objects : objects_of new ≡ change (objects_of old)
  pub queue : queue_of new ≡ (change (objects_of old)).things.queue
  pub living : (q : ℕ) → lives (queue_of new) q ≡ lives (queue_of old) q
  pub views : views_of new ≡ views_of old
  pub world : world_of_store new ≡ world_of_store old
  pub memory : new.ram ≡ old.ram

-- The objects besides accounts change in this way, and nothing else does but for parameters of the
-- policies: the same processes live, and the world and the memory stay.
pub record ChangesThings {B : Type 0} {P : _} (change : Things → Things) (old new : Store B P) :
    Type 0 where
  pub objects : objects_of new ≡ with_things (change (objects_of old).things) (objects_of old)
  pub queue : queue_of new ≡ (change (objects_of old).things).queue
  pub living : (q : ℕ) → lives (queue_of new) q ≡ lives (queue_of old) q
  pub world : world_of_store new ≡ world_of_store old
  pub memory : new.ram ≡ old.ram

-- The cache changes in this way, and nothing else does: the world stays, and so does the memory
-- beyond the frames.
pub record ChangesFrames {B : Type 0} {P : _} (change : CacheValue → CacheValue)
    (old new : Store B P) : Type 0 where
  pub objects : objects_of new ≡ with_cache (change (cache_of old)) (objects_of old)
  pub world : world_of_store new ≡ world_of_store old
  pub memory : SegmentsStay old.ram new.ram
