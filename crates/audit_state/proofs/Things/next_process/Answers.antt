use Rattle.std.proofs.Common.{List, ap, ◌∙◌}
use Rattle.kernel_model.specs.declared.QueueRow.{QueueRow}
use Rattle.kernel_model.specs.Policies as model
use Rattle.audit_state.specs.Things.{things_of}
use Rattle.audit_state.proofs.Things.next_process.Goals as goal

pub returns-in-None : goal.returns-in-None
returns-in-None c = λ bytes.
    let key = model.turn_key ((things_of bytes c.args.self.now).pol 2) in
    ap model.process_in
    (c.in-None.ensures bytes ∙ ap (λ (rows : List QueueRow). model.least key rows) c.deref.ensures.value)

pub returns-in-Some : goal.returns-in-Some
returns-in-Some c = λ bytes.
    let key = model.turn_key ((things_of bytes c.args.self.now).pol 2) in
    ap model.process_in
    (c.in-Some.ensures bytes ∙ ap (λ (rows : List QueueRow). model.least key rows) c.deref.ensures.value)
