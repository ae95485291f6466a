use Rattle.std.proofs.Common.{◌≡◌, ◌<◌, ap, subst, true, refl, sym, ◌∙◌, Some, set}
use Rattle.kernel_data.specs.declared.FrameRow.{FrameRow}
use Rattle.buffer_cache.specs.Frames.{Frames, row_at, in_use, holds, filled_row}
use Rattle.buffer_cache.proofs.Orders.{uses-most}
use Rattle.buffer_cache.proofs.Rows.{newest-room, filled-new, lead-new}
use Rattle.buffer_cache.proofs.cache.Cache.fill.Goals as goal

pub make_newest-requires : goal.make_newest-requires
make_newest-requires c =
    let cache : Frames = record {
      rows = c.self.inside.rows;
      order = c.self.inside.order.items;
      count = c.self.inside.count;
    } in
    let below : c.args.f < c.self.inside.count =
    subst (λ (v : Frames). c.args.f < v.count) (sym c.self.view_is) c.requires.frame in
    record {
      room = newest-room cache c.args.f c.self.invariant.0 below;
      once = uses-most (in_use c.args.f cache) _ (c.self.invariant.0.once c.args.f);
    }

pub invariant_of-self : goal.invariant_of-self
invariant_of-self c =
    let cache : Frames = record {
      rows = c.self.inside.rows;
      order = c.self.inside.order.items;
      count = c.self.inside.count;
    } in
    let below : c.args.f < c.self.inside.count =
    subst (λ (v : Frames). c.args.f < v.count) (sym c.self.view_is) c.requires.frame in (
      filled-new cache c.put_row.new.rows c.make_newest.new.order.items c.args.f
          (filled_row c.args.f c.args.owner c.args.block) c.self.invariant.0 below refl
          (λ g does. c.requires.no_other g (subst
          (λ (v : Frames). holds c.args.block (row_at v.rows g) ≡ true) c.self.view_is does))
          (c.put_row.ensures ∙ ap (λ (r : FrameRow). set c.self.inside.rows c.args.f (Some r))
          c.new_row.ensures) c.make_newest.ensures,
      lead-new cache c.self.inside.index c.lead.new.index c.put_row.new.rows c.args.f
          (filled_row c.args.f c.args.owner c.args.block) c.self.invariant.0 c.self.invariant.1
          below c.requires.range
          (λ g does. c.requires.no_other g (subst
          (λ (v : Frames). holds c.args.block (row_at v.rows g) ≡ true) c.self.view_is does))
          (c.put_row.ensures ∙ ap (λ (r : FrameRow). set c.self.inside.rows c.args.f (Some r))
          c.new_row.ensures) c.lead.ensures,
    )
