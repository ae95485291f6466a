use Rattle.graft_laws.proofs.OwnCallLemmas.{calls_replay}
use Rattle.graft_laws.proofs.kernels.calls_replay.Goals as goal

pub returns : goal.returns
returns g c = calls_replay g.R.Rules.meaning
