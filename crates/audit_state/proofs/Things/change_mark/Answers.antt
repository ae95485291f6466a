use Rattle.audit_state.proofs.Things.change_mark.Goals as goal

pub returns-clause-value : goal.returns-clause-value
returns-clause-value c = λ bytes.
    let key = c.in_ok-frame.ensures in
    let same = c.in_ok-value.ensures in
    let new = c.in_ok-set_mark.ensures bytes in
    let wide = c.from.ensures in
    cc
