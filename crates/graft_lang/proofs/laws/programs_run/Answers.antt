use Rattle.graft_lang.proofs.Whole as whole
use Rattle.graft_lang.proofs.laws.programs_run.Goals as goal

pub returns : goal.returns
returns c = whole.programs_run
