use Rattle.std.proofs.Common.{ℕ, List, Option, Some, None, ap, ◌∙◌}
use Rattle.kernel_model.specs.Objects.{Things, FrameValue, at}
use Rattle.kernel_model.specs.Fetch.{new_frame}
use Rattle.audit_table.specs.Tables.{column_of}
use Rattle.audit_state.specs.Things.{things_of}
use Rattle.audit_state.proofs.Mapped.{framed_new}
use Rattle.audit_state.proofs.Things.fill.Goals as goal

pub returns : goal.returns
returns c = λ bytes read.
    let a = c.args.self.now in
    let w = things_of bytes a in
    let f = c.args.f in
    let with : (ℕ → Option FrameValue) → List ℕ → Things =
    λ fs order. record w { cache = record { frame = fs; lru = order } } in
    ap (λ (fs : ℕ → Option FrameValue). with fs c.make_newest.new.order.items)
    (framed_new bytes (column_of None c.put_one.new.rows.items)
    (column_of None a.frames.items) f _ read (c.in_ok-put_one.ensures None))
    ∙ ap (λ (order : List ℕ). with
    (at f (Some (new_frame c.args.owner c.args.block read)) w.cache.frame) order) c.in_ok-make_newest.ensures
