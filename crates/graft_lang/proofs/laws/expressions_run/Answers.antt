use Rattle.graft_lang.proofs.Running as running
use Rattle.graft_lang.proofs.laws.expressions_run.Goals as goal

pub returns : goal.returns
returns c = running.expressions_run
