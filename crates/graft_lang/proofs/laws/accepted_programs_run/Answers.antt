use Rattle.graft_lang.proofs.Accepted as accepted
use Rattle.graft_lang.proofs.laws.accepted_programs_run.Goals as goal

pub returns : goal.returns
returns c = accepted.accepted_programs_run
