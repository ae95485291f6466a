use Rattle.audit_state.proofs.Things.change_window.Goals as goal

pub returns-clause-value : goal.returns-clause-value
returns-clause-value c = λ bytes.
    let key = c.in_ok-descriptor.ensures in
    let same = c.in_ok-value.ensures in
    let new = c.in_ok-set_window.ensures bytes in
    let wide = c.from.ensures in
    cc
