-- The objects of a store after boot.
use Rattle.std.proofs.Common.{◌≡◌, ℕ, zero, suc, ◌∙◌, ◌&&◌, nat_lt, Bool, true, false, cond, refl}
use Rattle.std.proofs.Common.{ap, List, [], Option, None, replicate}
use Rattle.std.proofs.Math.Path.{fun_ext}
use Rattle.kernel_data.specs.declared.FrameRow.{FrameRow}
use Rattle.kernel_data.specs.Objects.{Accounts, CacheValue, FrameValue, PolValue}
use Rattle.kernel_model.specs.Opening.{opening_objects, opening_accounts, opening_things, opening_policy}
use Rattle.buffer_cache.specs.Frames.{Frames, row_at}
use Rattle.ram_space.specs.Tables.{Table, segment_at}
use Rattle.process_table.specs.Processes.{Processes, opening}
use Rattle.kernel_state.specs.CacheViews.{frame_value, cache_value}
use Rattle.kernel_state.specs.Sound.{kept_by, segment_number}
use Rattle.kernel_state.specs.Stores.{objects_with}
use Rattle.kernel_state.proofs.Fits.{none_used}

-- a cache without frames in use
abbrev no_frames : CacheValue
no_frames = record { frame = λ f. None; lru = [] }

-- no frame of it is in use, whatever the memory is
cache_opens : (c : Frames) (m : List ℕ) (count : ℕ) →
    c ≡ record { rows = replicate 64 None; order = []; count = count } →
    cache_value c m ≡ no_frames
cache_opens c m count frames =
    let frame : (λ (f : ℕ). frame_value m f (row_at c.rows f)) ≡ (λ (f : ℕ). let o : Option FrameValue = None in o) =
    fun_ext (λ f. ap (λ (o : Option FrameRow). frame_value m f o)
    (ap (λ (y : Frames). row_at y.rows f) frames ∙ none_used 64 f)) in
    ap (λ (x : ℕ → Option FrameValue). let v : CacheValue = record { frame = x; lru = c.order } in v) frame
    ∙ ap (λ (y : Frames). let v : CacheValue = record { frame = λ f. None; lru = y.order } in v) frames

-- nothing is kept for any graft
abbrev nothing_kept : (q pt : ℕ) → Option (ℕ → ℕ)
nothing_kept q pt = None

none_there : (n i : ℕ) → segment_at (replicate n None) i ≡ None
none_there zero i = refl
none_there (suc n) zero = refl
none_there (suc n) (suc i) = none_there n i

none_kept : (n : ℕ) → kept_by (replicate n None) ≡ nothing_kept
none_kept n = fun_ext (λ q. fun_ext (λ pt. either (nat_lt q 16 && nat_lt pt 16) _ (none_there n (segment_number q pt))))
  where
    either : (b : Bool) (o : Option (ℕ → ℕ)) → o ≡ None → cond b o None ≡ None
    either true o none = none
    either false o none = refl

-- what the parts of a store after boot are together
pub opens_with : (a : Accounts) (s : Processes) (c : Frames) (m : List ℕ) (pol : ℕ → PolValue)
    (kept : Table) (count grant n : ℕ) →
    a ≡ opening_accounts grant → s ≡ opening →
    c ≡ record { rows = replicate 64 None; order = []; count = count } → pol ≡ opening_policy →
    kept ≡ replicate n None →
    objects_with a s (cache_value c m) pol kept ≡ opening_objects grant
opens_with a s c m pol kept count grant n accounts procs frames policies none =
    ap (λ (x : Accounts). objects_with x s (cache_value c m) pol kept) accounts
    ∙ ap (λ (x : Processes). objects_with (opening_accounts grant) x (cache_value c m) pol kept) procs
    ∙ ap (λ (x : CacheValue). objects_with (opening_accounts grant) opening x pol kept) (cache_opens c m count frames)
    ∙ ap (λ (x : ℕ → PolValue). objects_with (opening_accounts grant) opening no_frames x kept) policies
    ∙ ap (λ (x : ℕ → ℕ → Option (ℕ → ℕ)).
    record (opening_objects grant) { things = record opening_things { segment = x } })
    (ap (λ (t : Table). kept_by t) none ∙ none_kept n)
