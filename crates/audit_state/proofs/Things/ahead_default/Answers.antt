use Rattle.std.proofs.Common.{ℕ, Option, sym, ap, ◌∙◌}
use Rattle.kernel_model.specs.declared.OpenRow.{OpenRow}
use Rattle.kernel_model.specs.Policies as model
use Rattle.audit_state.specs.Things.{things_of}
use Rattle.audit_state.specs.Worlds.{world_of}
use Rattle.audit_state.proofs.Things.ahead_default.Goals as goal

pub returns-in-Some : goal.returns-in-Some
returns-in-Some c = λ bytes.
    let v = world_of c.args.world.now in
    let pol = (things_of bytes c.args.self.now).pol 0 in
    c.ahead_in.ensures bytes
    ∙ ap (λ (n : ℕ). model.ahead_in pol c.in-Some.opened n) c.blocks_of.ensures
    ∙ sym (ap (λ (f : Option OpenRow). model.ahead_default v pol f) c.in-Some.is)
