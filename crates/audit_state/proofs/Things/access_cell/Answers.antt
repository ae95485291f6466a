use Rattle.audit_state.proofs.Things.access_cell.Goals as goal

pub returns-clause-value : goal.returns-clause-value
returns-clause-value c = λ bytes.
    let was = c.cell-value.ensures bytes in
    let key = c.in_ok-cell.ensures in
    let new = c.in_ok-set_cell.ensures bytes in
    cc
