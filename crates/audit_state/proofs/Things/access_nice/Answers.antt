use Rattle.audit_state.proofs.Things.access_nice.Goals as goal

pub returns-clause-value : goal.returns-clause-value
returns-clause-value c = λ bytes.
    let was = c.nice-nice.ensures in
    let key = c.in_ok-value.ensures in
    let new = c.set_nice.ensures bytes in
    let wide = c.from.ensures in
    cc
