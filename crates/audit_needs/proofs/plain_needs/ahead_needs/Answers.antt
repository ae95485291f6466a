use Rattle.std.proofs.Common.{ℕ, Result, ◌++◌, ap, ◌∙◌}
use Rattle.kernel_model.specs.declared.Refusal.{Refusal}
use Rattle.kernel_model.specs.Needs as model
use Rattle.audit_state.specs.Worlds.{world_of}
use Rattle.audit_needs.specs.Stages.{objects_of}
use Rattle.audit_needs.proofs.plain_needs.ahead_needs.Goals as goal

pub returns : goal.returns
returns c = λ bytes.
    let scene = c.args.scene.now in
    let s = objects_of bytes scene.accounts.now scene.things.now in
    let needed = λ (b : Result ℕ Refusal).
    c.args.out.now.items ++ model.fetch_needs (world_of scene.world.now) s b in
    c.in_ok-fetch_needs.ensures bytes ∙ ap needed (c.ahead_at-block.ensures bytes)
