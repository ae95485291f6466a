use Rattle.std.proofs.Common.{◌≡◌, ◌<◌, ℕ, List, length, get_or, true, subst, sym}
use Rattle.buffer_cache.specs.Frames.{Frames, in_use}
use Rattle.buffer_cache.proofs.Rows.{order-used}
use Rattle.buffer_cache.proofs.cache.Cache.lru.Goals as goal

pub returns-clause-used : goal.returns-clause-used
returns-clause-used c =
    λ i inside.
    let cache : Frames = record {
      rows = c.self.inside.rows;
      order = c.self.inside.order.items;
      count = c.self.inside.count;
    } in
    let here = order-used cache c.self.invariant.0 i
    (subst (λ (w : List ℕ). i < length w) c.as_slice.ensures.value inside) in
    subst (λ (v : Frames). in_use (get_or c.as_slice.result.now i 0) v ≡ true) c.self.view_is
    (subst (λ (w : List ℕ). in_use (get_or w i 0) cache ≡ true) (sym c.as_slice.ensures.value) here)
