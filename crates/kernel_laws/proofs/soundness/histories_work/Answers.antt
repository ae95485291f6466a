use Rattle.kernel_laws.proofs.Laws.{histories_work}
use Rattle.kernel_laws.proofs.soundness.histories_work.Goals as goal

pub returns : goal.returns
returns g c = histories_work g.R.Rules.meaning
