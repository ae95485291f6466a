use Rattle.std.proofs.Common.{◌≡◌, ℕ, sym, ap, ◌∙◌}
use Rattle.kernel_model.specs.Policies as model
use Rattle.audit_state.specs.declared.PointKind.{PointKind}
use Rattle.audit_state.specs.Points.{point_kind}
use Rattle.audit_state.specs.Things.{things_of}
use Rattle.audit_state.specs.Worlds.{world_of}
use Rattle.audit_state.proofs.Things.default_by.Goals as goal

pub returns-in-Ahead : goal.returns-in-Ahead
returns-in-Ahead c = λ bytes.
    let v = world_of c.args.world.now in
    let w = things_of bytes c.args.self.now in
    let file : c.file.result ≡ w.file c.args.q c.args.pt =
    c.file.ensures bytes ∙ ap (λ (n : ℕ). w.file c.args.q n) c.from.ensures in
    c.ahead_default.ensures bytes ∙ ap (model.ahead_default v (w.pol 0)) file
    ∙ sym (ap (λ (k : PointKind). model.default_by (point_kind k) v w c.args.q c.args.pt) c.in-Ahead.is)
