use Rattle.run_laws.proofs.WaitCallLemmas.{waits_end_by_calls}
use Rattle.run_laws.proofs.waits.waits_end_by_calls.Goals as goal

pub returns : goal.returns
returns g c = waits_end_by_calls g.R.Rules.meaning
