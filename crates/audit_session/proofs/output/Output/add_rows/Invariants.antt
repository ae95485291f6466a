use Rattle.std.proofs.Common.{◌≡◌, ◌++◌, drop}
use Rattle.script_model.specs.Text.{row_lines}
use Rattle.audit_session.proofs.output.Output.add_rows.Given as goal

-- the lines so far, and those of the rows that are left
abbrev pub invariant-loop-row : goal.invariant-loop-row
invariant-loop-row l =
    l.self ++ row_lines l.n (drop l.row-index l.rows) ≡ l.fn.self ++ row_lines l.n l.rows
