use Rattle.run_laws.proofs.WaitCallLemmas.{runs_end_waits_by_calls}
use Rattle.run_laws.proofs.waits.runs_end_waits_by_calls.Goals as goal

pub returns : goal.returns
returns c = runs_end_waits_by_calls
