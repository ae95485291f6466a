use Rattle.std.proofs.Common.{◌≡◌, ◌-◌, ℕ, suc, sym, ap, ◌∙◌, arith}
use Rattle.kernel_model.specs.Needs as model
use Rattle.audit_state.specs.Things.{things_of}
use Rattle.audit_state.specs.Worlds.{world_of}
use Rattle.audit_needs.proofs.plain_asks.yield_ask.Goals as goal

pub returns-in_ok-asked : goal.returns-in_ok-asked
returns-in_ok-asked c = λ bytes.
    let v = world_of c.args.scene.now.world.now in
    let w = things_of bytes c.args.scene.now.things.now in
    let some = c.if-piece-eq0.false in
    let next : c.args.piece ≡ suc (c.args.piece - 1) = omega arith in
    c.in_ok-asked.ensures bytes
    ∙ ap (model.slice_ask v w) (c.next_process.ensures bytes)
    ∙ sym (ap (λ (n : ℕ). model.yield_ask n v w) next)
