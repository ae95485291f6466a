use Rattle.run_audit.proofs.Deciding as law
use Rattle.run_audit.proofs.comparing.yes_is_equal.Goals as goal

pub returns : goal.returns
returns c = law.yes_is_equal
