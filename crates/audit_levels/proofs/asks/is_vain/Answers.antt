use Rattle.std.proofs.Common.{ℕ, Option, not, ap, sym, ◌∙◌}
use Rattle.std.specs.Prelude.{is_some}
use Rattle.kernel_model.specs.declared.OpenRow.{OpenRow}
use Rattle.kernel_model.specs.GraftStep as model
use Rattle.audit_state.specs.declared.PointKind.{PointKind}
use Rattle.audit_state.specs.Points.{point_kind}
use Rattle.audit_state.specs.Things.{things_of}
use Rattle.audit_levels.proofs.asks.is_vain.Goals as goal

pub returns-in-Ahead : goal.returns-in-Ahead
returns-in-Ahead c = λ bytes.
    let w = things_of bytes c.args.things.now in
    let q = c.args.q in
    ap not (c.is_some.ensures ∙ ap (λ (f : Option OpenRow). is_some f) (c.file.ensures bytes)
    ∙ ap (λ (n : ℕ). is_some (w.file q n)) c.from.ensures)
    ∙ sym (ap (λ (k : PointKind). model.is_vain_ask (point_kind k) w q c.args.pt) c.in-Ahead.is)
