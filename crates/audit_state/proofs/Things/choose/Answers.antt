use Rattle.std.proofs.Common.{ℕ, ap}
use Rattle.kernel_model.specs.Objects.{Things, PolValue}
use Rattle.audit_table.specs.Tables.{table_of, column_of}
use Rattle.audit_state.specs.Things.{things_of}
use Rattle.audit_state.proofs.Mapped.{chosen_at}
use Rattle.audit_state.proofs.Things.choose.Goals as goal

pub returns : goal.returns
returns c = λ bytes.
    let a = c.args.self.now in
    let w = things_of bytes a in
    let with : (ℕ → PolValue) → Things = λ f. record w { pol = f } in
    ap with (chosen_at (column_of 0 c.put_one.new.rows.items) (column_of 0 a.chosen.items)
    (table_of 0 a.params.items) c.args.kind c.args.policy (c.in_ok-put_one.ensures 0))
