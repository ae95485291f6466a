use Rattle.failure_laws.proofs.OutcomeLemmas.{outcomes_see_failures}
use Rattle.failure_laws.proofs.outcomes_see_failures.Goals as goal

pub returns : goal.returns
returns c = outcomes_see_failures
