use Rattle.graft_laws.proofs.BeginningLemmas.{beginnings_replay}
use Rattle.graft_laws.proofs.histories.beginnings_replay.Goals as goal

pub returns : goal.returns
returns g c = beginnings_replay g.R.Rules.meaning
