use Rattle.std.proofs.Common.{Option, ap, ◌∙◌}
use Rattle.kernel_model.specs.declared.OpenRow.{OpenRow}
use Rattle.kernel_model.specs.Objects.{Things, at2}
use Rattle.kernel_model.specs.Access.{with_window}
use Rattle.audit_state.specs.Things.{things_of}
use Rattle.audit_state.proofs.Things.set_window.Goals as goal

pub returns : goal.returns
returns c = λ bytes.
    let w = things_of bytes c.args.self.now in
    let with : Option OpenRow → Things = λ o. record w { file = at2 c.args.q c.args.fd o w.file } in
    c.in_ok-set_file.ensures bytes
    ∙ ap with (c.with_window-file.ensures ∙ ap (with_window c.args.v) (c.file.ensures bytes))
