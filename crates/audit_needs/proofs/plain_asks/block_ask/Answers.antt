use Rattle.std.proofs.Common.{ap, ◌∙◌}
use Rattle.kernel_model.specs.Needs as model
use Rattle.audit_state.specs.Things.{things_of}
use Rattle.audit_state.specs.Worlds.{world_of}
use Rattle.audit_needs.proofs.plain_asks.block_ask.Goals as goal

pub returns : goal.returns
returns c = λ bytes.
    let v = world_of c.args.scene.now.world.now in
    let w = things_of bytes c.args.scene.now.things.now in
    c.in_ok-asked.ensures bytes ∙ ap (model.fetch_ask v w) (c.block_at-block.ensures bytes)
