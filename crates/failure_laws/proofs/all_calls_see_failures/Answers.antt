use Rattle.failure_laws.proofs.PieceLemmas.{all_calls_see_failures}
use Rattle.failure_laws.proofs.all_calls_see_failures.Goals as goal

pub returns : goal.returns
returns c = all_calls_see_failures
