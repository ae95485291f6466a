use Rattle.std.proofs.Common.{ℕ, Option, None, ap, ◌∙◌}
use Rattle.kernel_model.specs.declared.OpenRow.{OpenRow}
use Rattle.kernel_model.specs.Objects.{Things, at2}
use Rattle.audit_state.specs.Things.{things_of}
use Rattle.audit_state.proofs.Things.set_file.Goals as goal

pub returns : goal.returns
returns c = λ bytes.
    let w = things_of bytes c.args.self.now in
    let with : (ℕ → ℕ → Option OpenRow) → Things = λ f. record w { file = f } in
    ap with (c.in_ok-put.ensures None ∙ ap (λ (n : ℕ). at2 n c.args.fd c.args.file w.file) c.from.ensures)
