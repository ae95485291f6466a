use Rattle.run_laws.proofs.WaitLemmas.{runs_end_waits}
use Rattle.run_laws.proofs.waits.runs_end_waits.Goals as goal

pub returns : goal.returns
returns c = runs_end_waits
