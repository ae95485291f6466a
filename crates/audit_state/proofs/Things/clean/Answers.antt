use Rattle.std.proofs.Common.{ℕ, Option, None, ap}
use Rattle.kernel_model.specs.Objects.{Things, FrameValue}
use Rattle.audit_table.specs.Tables.{column_of}
use Rattle.audit_state.specs.Things.{things_of}
use Rattle.audit_state.proofs.Mapped.{framed_at}
use Rattle.audit_state.proofs.Things.clean.Goals as goal

pub returns : goal.returns
returns c = λ bytes.
    let a = c.args.self.now in
    let w = things_of bytes a in
    let with : (ℕ → Option FrameValue) → Things =
    λ fs. record w { cache = record { frame = fs; lru = w.cache.lru } } in
    ap with (framed_at bytes (column_of None c.put_one.new.rows.items)
    (column_of None a.frames.items) c.args.f _ (c.in_ok-put_one.ensures None))
