use Rattle.std.proofs.Common.{ℕ, List, ap, ◌∙◌, arith}
use Rattle.std.specs.Prelude.{slice_set}
use Rattle.audit_table.specs.declared.Row.{Row}
use Rattle.audit_table.specs.Tables.{table_of, rows_before}
use Rattle.audit_table.proofs.Places.{new_row, put_there, put_new}
use Rattle.audit_table.proofs.put.Goals as goal

pub returns-then-n-len : goal.returns-then-n-len
returns-then-n-len g c = λ default.
    let rows = c.args.rows.now.items in
    let n_is = c.before-n.ensures
    ∙ ap (λ (xs : List (Row _)). rows_before c.args.first c.args.second xs) c.deref.ensures.value in
    ap (λ (n : ℕ). table_of default (slice_set rows n (new_row c.args.first c.args.second c.args.value))) n_is
    ∙ put_there default c.args.value rows c.args.first c.args.second (omega (arith, n_is))

pub returns : goal.returns
returns g c = λ default.
    let rows = c.args.rows.now.items in
    let n_is = c.before-n.ensures
    ∙ ap (λ (xs : List (Row _)). rows_before c.args.first c.args.second xs) c.deref.ensures.value in
    ap (table_of default) c.in_ok-put_last.ensures
    ∙ put_new default c.args.value rows c.args.first c.args.second (omega (arith, n_is))
