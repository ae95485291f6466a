use Rattle.audit_state.proofs.Things.change_param.Goals as goal

pub returns-clause-value : goal.returns-clause-value
returns-clause-value c = λ bytes.
    let key = c.in_ok-number.ensures in
    let place = c.in_ok-parameter.ensures in
    let new = c.in_ok-set_param.ensures bytes in
    cc
