use Rattle.std.proofs.Common.{ℕ, List, Option, Some, sym, ap, ◌∙◌}
use Rattle.kernel_model.specs.declared.Point.{Point}
use Rattle.kernel_model.specs.Needs as model
use Rattle.audit_state.specs.Things.{things_of}
use Rattle.audit_state.specs.Worlds.{world_of}
use Rattle.audit_needs.proofs.plain_asks.slice_ask.Goals as goal

pub returns-in_ok-args-in-Some : goal.returns-in_ok-args-in-Some
returns-in_ok-args-in-Some c = λ bytes.
    let v = world_of c.args.scene.now.world.now in
    let w = things_of bytes c.args.scene.now.things.now in
    let asked : List ℕ → Option Point =
    λ args. Some (record { installer = c.in-Some.c; point = 5; args = args }) in
    ap asked (c.in_ok-args-in-Some.ensures bytes)
    ∙ sym (ap (λ (o : Option ℕ). model.slice_ask v w o) c.in-Some.is)
