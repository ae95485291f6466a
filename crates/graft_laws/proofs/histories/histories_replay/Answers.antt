use Rattle.graft_laws.proofs.BeginningLemmas.{histories_replay}
use Rattle.graft_laws.proofs.histories.histories_replay.Goals as goal

pub returns : goal.returns
returns g c = histories_replay g.R.Rules.meaning
