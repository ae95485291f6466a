use Rattle.std.proofs.Common.{refl}
use Rattle.buffer_cache.specs.Frames.{Frames}
use Rattle.buffer_cache.proofs.Rows.{put-same}
use Rattle.buffer_cache.proofs.cache.Cache.mark.Goals as goal

pub invariant_of-self : goal.invariant_of-self
invariant_of-self c =
    let cache : Frames = record {
      rows = c.self.inside.rows;
      order = c.self.inside.order.items;
      count = c.self.inside.count;
    } in
    let kept = put-same cache c.self.inside.index c.put_row.new.rows c.args.f c.row_of-row.result
    (record c.row_of-row.result { mark = c.args.v }) c.self.invariant.0 c.self.invariant.1
    c.row_of-row.ensures
    c.put_row.ensures refl refl in
    (kept.0, kept.1)
