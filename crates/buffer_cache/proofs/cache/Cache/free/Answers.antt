use Rattle.std.proofs.Common.{◌≡◌, ℕ, ◌<◌, length, take, true, Option, None, sym, subst, ◌∙◌}
use Rattle.std.specs.List.{position}
use Rattle.std.specs.Option.{is_none}
use Rattle.kernel_data.specs.declared.FrameRow.{FrameRow}
use Rattle.buffer_cache.specs.Frames.{Frames, in_use}
use Rattle.buffer_cache.proofs.Rows.{all-used}
use Rattle.buffer_cache.proofs.Finding.{none-free}
use Rattle.buffer_cache.proofs.cache.Cache.free.Goals as goal

pub returns-then-len-from-clause-value : goal.returns-then-len-from-clause-value
returns-then-len-from-clause-value c =
    let cache : Frames = record {
      rows = c.self.inside.rows;
      order = c.self.inside.order.items;
      count = c.self.inside.count;
    } in
    let whole : length c.self.inside.order.items ≡ c.self.inside.count = sym c.len.ensures.value
    ∙ c.if-len-from.true ∙ c.from.ensures in
    subst (λ (v : Frames). ◌≡◌ {A = Option ℕ} None (position (λ (r : Option FrameRow). is_none r)
    (take v.count v.rows))) c.self.view_is (sym (none-free cache c.self.invariant.0 whole))

pub returns-then-len-from-clause-full : goal.returns-then-len-from-clause-full
returns-then-len-from-clause-full c =
    let cache : Frames = record {
      rows = c.self.inside.rows;
      order = c.self.inside.order.items;
      count = c.self.inside.count;
    } in
    let whole : length c.self.inside.order.items ≡ c.self.inside.count = sym c.len.ensures.value
    ∙ c.if-len-from.true ∙ c.from.ensures in
    subst (λ (v : Frames). (f : ℕ) → f < v.count → in_use f v ≡ true) c.self.view_is
    (all-used cache c.self.invariant.0 whole)
