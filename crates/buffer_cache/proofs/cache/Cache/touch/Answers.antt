use Rattle.std.proofs.Common.{◌≡◌, subst, true, sym}
use Rattle.buffer_cache.specs.Frames.{Frames, in_use}
use Rattle.buffer_cache.proofs.Orders.{uses-most}
use Rattle.buffer_cache.proofs.Rows.{newest-room, touched-new}
use Rattle.buffer_cache.proofs.cache.Cache.touch.Goals as goal

pub make_newest-requires : goal.make_newest-requires
make_newest-requires c =
    let cache : Frames = record {
      rows = c.self.inside.rows;
      order = c.self.inside.order.items;
      count = c.self.inside.count;
    } in
    record {
      room =
          newest-room cache c.args.f c.self.invariant.0 (c.self.invariant.0.below c.args.f
          (subst (λ (v : Frames). in_use c.args.f v ≡ true) (sym c.self.view_is) c.requires));
      once = uses-most (in_use c.args.f cache) _ (c.self.invariant.0.once c.args.f);
    }

pub invariant_of-self : goal.invariant_of-self
invariant_of-self c =
    let cache : Frames = record {
      rows = c.self.inside.rows;
      order = c.self.inside.order.items;
      count = c.self.inside.count;
    } in (
      touched-new cache c.make_newest.new.order.items c.args.f c.self.invariant.0
          (subst (λ (v : Frames). in_use c.args.f v ≡ true) (sym c.self.view_is) c.requires)
          c.make_newest.ensures,
      c.self.invariant.1,
    )
