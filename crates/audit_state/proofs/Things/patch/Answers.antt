use Rattle.std.proofs.Common.{ℕ, Option, None, ap, ◌∙◌}
use Rattle.kernel_model.specs.Objects.{Things, FrameValue, at}
use Rattle.kernel_model.specs.Fetch.{bytes_with, patched}
use Rattle.audit_table.specs.Tables.{column_of}
use Rattle.audit_state.specs.declared.Frame.{Frame}
use Rattle.audit_state.specs.Things.{things_of, frame_of}
use Rattle.audit_state.proofs.Mapped.{framed_new, patched_is}
use Rattle.audit_state.proofs.Things.patch.Goals as goal

pub returns : goal.returns
returns c = λ bytes offset patch.
    let a = c.args.self.now in
    let w = things_of bytes a in
    let f = c.args.f in
    let new = bytes_with offset patch (bytes f) in
    let with : (ℕ → Option FrameValue) → Things =
    λ fs. record w { cache = record { frame = fs; lru = w.cache.lru } } in
    ap with (framed_new bytes (column_of None c.put_one.new.rows.items)
    (column_of None a.frames.items) f c.with_patch-frame.result new (c.in_ok-put_one.ensures None)
    ∙ ap (λ (o : Option FrameValue). at f o w.cache.frame)
    (ap (λ (o : Option Frame). frame_of new o) c.with_patch-frame.ensures
    ∙ patched_is offset patch (bytes f) c.frame.result ∙ ap (patched offset patch) (c.frame.ensures bytes)))
