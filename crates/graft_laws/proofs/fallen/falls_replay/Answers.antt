use Rattle.graft_laws.proofs.HistoryLaws.{falls_replay}
use Rattle.graft_laws.proofs.fallen.falls_replay.Goals as goal

pub returns : goal.returns
returns g c = falls_replay g.R.Rules.meaning
