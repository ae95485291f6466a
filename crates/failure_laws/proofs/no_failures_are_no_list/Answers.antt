use Rattle.failure_laws.proofs.OutcomeLemmas.{no_failures_are_no_list}
use Rattle.failure_laws.proofs.no_failures_are_no_list.Goals as goal

pub returns : goal.returns
returns c = no_failures_are_no_list
