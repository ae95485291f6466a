use Rattle.failure_laws.proofs.EventLemmas.{events_see_failures}
use Rattle.failure_laws.proofs.events_see_failures.Goals as goal

pub returns : goal.returns
returns c = events_see_failures
