use Rattle.std.proofs.Common.{ℕ, ◌++◌, sym, ap, ◌∙◌}
use Rattle.kernel_model.specs.declared.BareCall.{BareCall}
use Rattle.kernel_model.specs.Bare.{call_with}
use Rattle.kernel_model.specs.Needs as model
use Rattle.audit_state.specs.Worlds.{world_of}
use Rattle.audit_needs.specs.Stages.{objects_of}
use Rattle.audit_needs.proofs.plain_needs.piece_needs.Goals as goal

pub returns-in_ok-give_needs-in-Give : goal.returns-in_ok-give_needs-in-Give
returns-in_ok-give_needs-in-Give c = λ bytes.
    let scene = c.args.scene.now in
    let s = objects_of bytes scene.accounts.now scene.things.now in
    let old = c.args.out.now.items in
    let by_call = λ (call : BareCall).
    old ++ model.piece_needs (call_with call c.args.given.now) c.args.piece (world_of scene.world.now) s c.args.p in
    c.in_ok-give_needs-in-Give.ensures bytes
    ∙ ap (λ (q : ℕ). old ++ model.give_needs s c.args.p q c.in-Give.kind c.in-Give.amount)
    c.in_ok-byte_of-in-Give.ensures
    ∙ sym (ap by_call c.in-Give.is)
