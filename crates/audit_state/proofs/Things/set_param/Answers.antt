use Rattle.std.proofs.Common.{ℕ, ap, ◌∙◌}
use Rattle.kernel_model.specs.Objects.{Things, PolValue, at2}
use Rattle.audit_table.specs.Tables.{table_of, column_of}
use Rattle.audit_state.specs.Things.{things_of}
use Rattle.audit_state.proofs.Mapped.{param_at}
use Rattle.audit_state.proofs.Things.set_param.Goals as goal

pub returns : goal.returns
returns c = λ bytes.
    let a = c.args.self.now in
    let w = things_of bytes a in
    let with : (ℕ → PolValue) → Things = λ f. record w { pol = f } in
    ap with (param_at (column_of 0 a.chosen.items) (table_of 0 c.put.new.rows.items)
    (table_of 0 a.params.items) c.args.kind c.args.v
    (c.in_ok-put.ensures 0
    ∙ ap (λ (n : ℕ). at2 c.args.kind n c.args.v (table_of 0 a.params.items))
    (c.from-policy.ensures ∙ c.chosen.ensures bytes)))
