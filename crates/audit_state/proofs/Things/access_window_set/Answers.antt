use Rattle.std.proofs.Common.{Option, ap, ◌∙◌}
use Rattle.kernel_model.specs.declared.OpenRow.{OpenRow}
use Rattle.kernel_model.specs.Access as model
use Rattle.audit_state.specs.Things.{things_of}
use Rattle.audit_state.proofs.Things.access_window_set.Goals as goal

pub returns-in-None-clause-value : goal.returns-in-None-clause-value
returns-in-None-clause-value c = λ bytes.
    let w = things_of bytes c.args.self.now in
    ap (λ (o : Option OpenRow). model.window_change c.args.id c.args.fd c.args.v c.args.q o w)
    (c.in-None.ensures bytes)

pub returns-in_ok-accessed-in-Some-clause-value : goal.returns-in_ok-accessed-in-Some-clause-value
returns-in_ok-accessed-in-Some-clause-value c = λ bytes.
    let w = things_of bytes c.args.self.now in
    c.in_ok-accessed-in-Some.ensures.value bytes
    ∙ ap (λ (o : Option OpenRow). model.window_change c.args.id c.args.fd c.args.v c.args.q o w)
    (c.in-Some.ensures bytes)
