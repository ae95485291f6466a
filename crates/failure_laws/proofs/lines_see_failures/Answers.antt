use Rattle.failure_laws.proofs.OutcomeLemmas.{lines_see_failures}
use Rattle.failure_laws.proofs.lines_see_failures.Goals as goal

pub returns : goal.returns
returns c = lines_see_failures
