use Rattle.audit_table.specs.Tables.{table_of}
use Rattle.audit_table.proofs.Places.{column_is}
use Rattle.audit_table.proofs.put_one.Goals as goal

pub returns-in-Ok : goal.returns-in-Ok
returns-in-Ok g c = λ default.
    column_is (table_of default c.put.new.rows.items)
    (table_of default c.args.rows.now.items) c.args.number c.args.value (c.in-Ok.ensures default)
