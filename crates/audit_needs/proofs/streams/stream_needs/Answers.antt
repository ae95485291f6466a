use Rattle.std.proofs.Common.{ℕ, List, ◌++◌, sym, ap, ◌∙◌}
use Rattle.kernel_model.specs.declared.Need.{Need}
use Rattle.kernel_model.specs.Bare.{call_with}
use Rattle.kernel_model.specs.Needs.{piece_needs}
use Rattle.audit_state.specs.Worlds.{world_of}
use Rattle.audit_needs.specs.Stages.{stage_of, objects_of}
use Rattle.audit_needs.proofs.OtherCalls.{needs_as_plain}
use Rattle.audit_needs.proofs.streams.stream_needs.Goals as goal

pub returns-in_ok-piece_needs-in_default : goal.returns-in_ok-piece_needs-in_default
returns-in_ok-piece_needs-in_default c = λ bytes.
    let scene = c.args.scene.now in
    let stage = c.args.stage.now in
    let v = world_of scene.world.now in
    let s = objects_of bytes scene.accounts.now scene.things.now in
    let p = c.args.p in
    let old = c.args.out.now.items in
    let plain = λ (given : List ℕ).
    old ++ piece_needs (call_with stage.call given) stage.piece v s p in
    c.in_ok-piece_needs-in_default.ensures bytes
    ∙ ap plain c.deref.ensures.value
    ∙ sym (ap (λ (ns : List Need). old ++ ns)
    (needs_as_plain stage.call stage.given.items (stage_of stage) v s p c.in_default.not-StreamRead
    c.in_default.not-StreamWrite))
