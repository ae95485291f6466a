-- Whether there is a candidate for eviction or for the processor: no policy decides that.
use Rattle.std.specs.Prelude.{◌≡◌, ℕ, Bool, true, false, cond, nat_lt, List, [], ◌∷◌, Option, Some, None, is_some}
use Rattle.std.proofs.Common.{refl, sym, ◌∙◌}
use Rattle.kernel_model.specs.declared.QueueRow.{QueueRow}
use Rattle.kernel_model.specs.World.{World}
use Rattle.kernel_model.specs.Objects.{PolValue, CacheValue}
use Rattle.kernel_model.specs.Policies.{least, process_in, next_process, turn_key, victim_among, victim_key}
use Rattle.kernel_model.specs.Needs.{candidate_by, candidate_for, frame_of_block, free_frame}

-- a list has a first element
abbrev pub has_first : {A : Type 0} → List A → Bool
has_first [] = false
has_first (x ∷ xs) = true

-- of two that stand, either stands
some_either : {A : Type 0} (test : Bool) (x y : A) → is_some (cond test (Some x) (Some y)) ≡ true
some_either true x y = refl
some_either false x y = refl

-- a list with a first element has one of least key, whatever the least of the rest
some_least : {A : Type 0} (key : A → ℕ) (x : A) (o : Option A) →
    is_some (elim o as (λ _. Option A) [
      | None ↦ Some x
      | Some y ↦ cond (nat_lt (key y) (key x)) (Some y) (Some x)
    ]) ≡ true
some_least key x None = refl
some_least key x (Some y) = some_either (nat_lt (key y) (key x)) y x

-- one of least key stands in each list but the empty one
pub least_stands : {A : Type 0} (key : A → ℕ) (xs : List A) → is_some (least key xs) ≡ has_first xs
least_stands key [] = refl
least_stands key (x ∷ xs) = some_least key x (least key xs)

-- a row has a process
process_in_stands : (o : Option QueueRow) → is_some (process_in o) ≡ is_some o
process_in_stands None = refl
process_in_stands (Some r) = refl

-- there is a candidate for the processor unless the queue is empty
pub next_stands : (pol : PolValue) (queue : List QueueRow) →
    is_some (next_process pol queue) ≡ has_first queue
next_stands pol queue = process_in_stands (least (turn_key pol) queue)
    ∙ least_stands (turn_key pol) queue

-- whether a frame must be chosen doesn't look at which
pub candidate_by_same : (held free x y : Option ℕ) → is_some x ≡ is_some y →
    is_some (candidate_by held free x) ≡ is_some (candidate_by held free y)
candidate_by_same None None x y h = h
candidate_by_same None (Some f) x y h = refl
candidate_by_same (Some f) free x y h = refl

-- two policies have a candidate for eviction, or neither
pub candidate_stands : (v : World) (pol other : PolValue) (c : CacheValue) (b : ℕ) →
    is_some (candidate_for v pol c b) ≡ is_some (candidate_for v other c b)
candidate_stands v pol other c b =
    candidate_by_same (frame_of_block c b) (free_frame c v.frames 0) (victim_among pol c c.lru)
    (victim_among other c c.lru)
    (least_stands (victim_key pol c) c.lru ∙ sym (least_stands (victim_key other c) c.lru))
