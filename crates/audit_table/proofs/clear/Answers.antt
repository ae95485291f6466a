use Rattle.std.proofs.Common.{not, ◌==◌, ap, ◌∙◌, rules}
use Rattle.audit_table.specs.declared.Row.{Row}
use Rattle.audit_table.specs.Tables.{table_of}
use Rattle.audit_table.proofs.Filtering.{kept_by}
use Rattle.audit_table.proofs.Places.{cleared}
use Rattle.audit_table.proofs.clear.Goals as goal

pub returns : goal.returns
returns g c = λ default.
    let rows = c.args.rows.now.items in
    ap (table_of default)
    (kept_by _ (λ (r : Row g.row.V.Denot). not (r.first == c.args.first)) _
    (λ x b h called. search rules) _ _ c.retain.ensures.filtered)
    ∙ cleared default rows c.args.first
