use Rattle.run_laws.proofs.WaitLemmas.{waits_end}
use Rattle.run_laws.proofs.waits.waits_end.Goals as goal

pub returns : goal.returns
returns g c = waits_end g.R.Rules.meaning
