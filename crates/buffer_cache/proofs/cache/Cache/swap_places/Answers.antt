use Rattle.std.proofs.Common.{◌≡◌, subst, true, sym}
use Rattle.buffer_cache.specs.Frames.{Frames, in_use}
use Rattle.buffer_cache.proofs.Rows.{swapped-new}
use Rattle.buffer_cache.proofs.cache.Cache.swap_places.Goals as goal

pub invariant_of-self : goal.invariant_of-self
invariant_of-self c =
    let cache : Frames = record {
      rows = c.self.inside.rows;
      order = c.self.inside.order.items;
      count = c.self.inside.count;
    } in (
      swapped-new cache c.exchange.new.order.items c.args.f c.args.g c.self.invariant.0
          (subst (λ (v : Frames). in_use c.args.f v ≡ true) (sym c.self.view_is) c.requires.first)
          (subst (λ (v : Frames). in_use c.args.g v ≡ true)
          (sym c.self.view_is) c.requires.second) c.exchange.ensures,
      c.self.invariant.1,
    )
