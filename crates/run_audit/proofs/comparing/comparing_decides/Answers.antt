use Rattle.run_audit.proofs.Deciding.{comparing_decides}
use Rattle.run_audit.proofs.comparing.comparing_decides.Goals as goal

pub returns : goal.returns
returns c = comparing_decides
