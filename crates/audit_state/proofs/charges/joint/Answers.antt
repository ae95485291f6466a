use Rattle.audit_state.proofs.charges.joint.Goals as goal

pub returns : goal.returns
returns c = let h = c.in_ok-balance.ensures in let k = c.in_ok-spent.ensures in cc
