use Rattle.std.proofs.Common.{◌≡◌, ap, subst, ◌∙◌}
use Rattle.std.specs.Option.{is_some}
use Rattle.buffer_cache.specs.Frames.{Frames, row_at, in_use}
use Rattle.buffer_cache.proofs.Rows.{handed-new, handed-used}
use Rattle.buffer_cache.proofs.cache.Cache.hand_over.Goals as goal

pub invariant_of-self : goal.invariant_of-self
invariant_of-self c =
    let cache : Frames = record {
      rows = c.self.inside.rows;
      order = c.self.inside.order.items;
      count = c.self.inside.count;
    } in
    let kept = handed-new cache c.self.inside.index c.change_owner.new.rows c.args.from c.args.to
    c.self.invariant.0 c.self.invariant.1 c.change_owner.ensures in
    (kept.0, kept.1)

pub returns-clause-used : goal.returns-clause-used
returns-clause-used c =
    λ f.
    let after : Frames = record {
      rows = c.change_owner.new.rows;
      order = c.self.inside.order.items;
      count = c.self.inside.count;
    } in
    subst (λ (v : Frames). in_use f after ≡ in_use f v) c.self.view_is
    (ap (λ w. is_some (row_at w f)) c.change_owner.ensures ∙ handed-used c.args.from c.args.to c.self.inside.rows f)
