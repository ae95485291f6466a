use Rattle.audit_state.proofs.charges.more.Goals as goal

pub returns : goal.returns
returns c = let h = c.in_ok-balance.ensures in cc
