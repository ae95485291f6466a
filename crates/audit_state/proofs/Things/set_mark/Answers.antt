use Rattle.std.proofs.Common.{ℕ, Option, None, ap, ◌∙◌}
use Rattle.kernel_model.specs.Objects.{Things, FrameValue, at}
use Rattle.kernel_model.specs.Access.{with_mark}
use Rattle.audit_table.specs.Tables.{column_of}
use Rattle.audit_state.specs.declared.Frame.{Frame}
use Rattle.audit_state.specs.Things.{things_of, frame_of}
use Rattle.audit_state.proofs.Mapped.{framed_at, marked_is}
use Rattle.audit_state.proofs.Things.set_mark.Goals as goal

pub returns : goal.returns
returns c = λ bytes.
    let w = things_of bytes c.args.self.now in
    let f = c.args.f in
    let with : (ℕ → Option FrameValue) → Things =
    λ fs. record w { cache = record { frame = fs; lru = w.cache.lru } } in
    ap with (framed_at bytes (column_of None c.put_one.new.rows.items)
    (column_of None c.args.self.now.frames.items) f c.with_mark-frame.result (c.in_ok-put_one.ensures None)
    ∙ ap (λ (o : Option FrameValue). at f o w.cache.frame)
    (ap (λ (o : Option Frame). frame_of (bytes f) o) c.with_mark-frame.ensures
    ∙ marked_is c.args.v (bytes f) c.frame.result ∙ ap (with_mark c.args.v) (c.frame.ensures bytes)))
