use Rattle.std.proofs.Common.{ℕ, List, Option, Some, ap, ◌∙◌}
use Rattle.kernel_model.specs.declared.Point.{Point}
use Rattle.kernel_model.specs.Policies.{args_by, Ahead}
use Rattle.audit_state.specs.Things.{things_of}
use Rattle.audit_state.specs.Worlds.{world_of}
use Rattle.audit_needs.proofs.plain_asks.ahead_ask.Goals as goal

pub returns : goal.returns
returns c = λ bytes.
    let v = world_of c.args.scene.now.world.now in
    let w = things_of bytes c.args.scene.now.things.now in
    let asked : ℕ → List ℕ → Option Point =
    λ pt args. Some (record { installer = c.args.p; point = pt; args = args }) in
    ap (asked c.in_ok-point.point) (c.in_ok-args.ensures bytes)
    ∙ ap (λ (pt : ℕ). asked pt (args_by Ahead v w c.args.p pt)) c.in_ok-point.ensures
