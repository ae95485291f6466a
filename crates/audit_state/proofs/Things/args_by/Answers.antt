use Rattle.std.proofs.Common.{ℕ, List, [], sym, ap, ◌∙◌}
use Rattle.kernel_model.specs.Policies as model
use Rattle.audit_state.specs.declared.PointKind.{PointKind}
use Rattle.audit_state.specs.declared.PointKind.TheVariants.{Victim, Next}
use Rattle.audit_state.specs.Points.{point_kind}
use Rattle.audit_state.specs.Things.{things_of}
use Rattle.audit_state.specs.Worlds.{world_of}
use Rattle.audit_state.proofs.Asking.{point_is, rows_is}
use Rattle.audit_state.proofs.Things.args_by.Goals as goal

pub returns-in-Ahead : goal.returns-in-Ahead
returns-in-Ahead c = λ bytes.
    let v = world_of c.args.world.now in
    let w = things_of bytes c.args.self.now in
    c.ahead_args.ensures bytes
    ∙ sym (ap (λ (k : PointKind). model.args_by (point_kind k) v w c.args.q c.args.pt) c.in-Ahead.is)

pub returns-in-Victim : goal.returns-in-Victim
returns-in-Victim c =
    point_is c.victim_args.result (world_of c.args.world.now)
    (λ (bytes : ℕ → List ℕ). things_of bytes c.args.self.now) c.args.q c.args.pt c.args.kind Victim
    c.in-Victim.is c.victim_args.ensures

pub returns-in-Next : goal.returns-in-Next
returns-in-Next c =
    let args = λ (bytes : ℕ → List ℕ). model.args_by model.Next (world_of c.args.world.now)
    (things_of bytes c.args.self.now) c.args.q c.args.pt in
    point_is c.turn_args.result (world_of c.args.world.now)
    (λ (bytes : ℕ → List ℕ). things_of bytes c.args.self.now) c.args.q c.args.pt c.args.kind Next
    c.in-Next.is (rows_is c.turn_args.result (args (λ f. [])) c.turn_args.ensures)
