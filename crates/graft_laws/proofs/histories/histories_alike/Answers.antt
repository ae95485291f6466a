use Rattle.graft_laws.proofs.AlikeHistoryLemmas.{histories_alike}
use Rattle.graft_laws.proofs.histories.histories_alike.Goals as goal

pub returns : goal.returns
returns g c = histories_alike g.R.Rules.meaning
