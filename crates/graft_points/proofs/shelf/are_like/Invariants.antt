use Rattle.std.proofs.Common.{◌≡◌, ℕ, ◌<◌, map}
use Rattle.graft_points.specs.Shelf.{view_at, stock_view}
use Rattle.graft_points.proofs.shelf.are_like.Given as goal

abbrev pub invariant-loop-i : goal.invariant-loop-i
invariant-loop-i g l =
    (k : ℕ) → k < l.i →
    view_at (map g.B.Policy.seen l.shelf) k
    ≡ view_at (map (λ s. stock_view s.0 s.1) l.table) k
