use Rattle.audit_state.proofs.charges.less.Goals as goal

pub returns : goal.returns
returns c = cc
