-- What fetches come to where no call of the disk fails.
use Rattle.std.proofs.Common.{◌≡◌, ℕ, Bool, true, false, [], Option, None, Some, refl, sym, ap, ◌∙◌}
use Rattle.kernel_model.specs.Objects.{Objects, CacheValue, FrameValue, at}
use Rattle.kernel_model.specs.World.{Blocks}
use Rattle.kernel_model.specs.Fetch.{Fetched, Got, evict}
use Rattle.kernel_model.specs.FilePieces.{with_cache}
use Rattle.audit_pieces.specs.Ends.{calls_in, written_back}

-- however many calls it made
pub with_calls : (m : Fetched) (c : CacheValue) (b : Blocks) (f n : ℕ) → m ≡ Got c b f n →
    m ≡ Got c b f (calls_in m)
with_calls m c b f n e = e ∙ ap (λ (k : ℕ). Got c b f k) (sym (ap calls_in e))

-- its cache is that of the objects after it
pub got_as : (m : Fetched) (s t : Objects) (c : CacheValue) (b : Blocks) (f n : ℕ) →
    m ≡ Got c b f n → t ≡ with_cache c s → m ≡ Got t.things.cache b f (calls_in m)
got_as m s t c b f n e k =
    with_calls m t.things.cache b f n
    (e ∙ ap (λ (x : CacheValue). Got x b f n) (sym (ap (λ (x : Objects). x.things.cache) k)))

-- all else is as it was
pub kept_as : (s t : Objects) (c : CacheValue) → t ≡ with_cache c s →
    t ≡ with_cache t.things.cache s
kept_as s t c k =
    k ∙ ap (λ (x : CacheValue). with_cache x s) (sym (ap (λ (x : Objects). x.things.cache) k))

-- an eviction of a frame in use
evicted_by : (b : Bool) (old : FrameValue) (f : ℕ) (after : CacheValue) (blocks : Blocks) →
    elim b [ false ↦ Got after blocks f 1 | true ↦ Got after (at old.block old.bytes blocks) f 2 ]
    ≡ Got after (elim b [ false ↦ blocks | true ↦ at old.block old.bytes blocks ]) f
    (calls_in (elim b [ false ↦ Got after blocks f 1 | true ↦ Got after (at old.block old.bytes blocks) f 2 ]))
evicted_by false old f after blocks = refl
evicted_by true old f after blocks = refl

-- an eviction
pub evicted : (o : Option FrameValue) (f : ℕ) (after : CacheValue) (blocks : Blocks) →
    evict o f after blocks [] ≡ Got after (written_back o blocks) f (calls_in (evict o f after blocks []))
evicted None f after blocks = refl
evicted (Some old) f after blocks = evicted_by old.dirty old f after blocks
