use Rattle.graft_laws.proofs.HistoryLaws.{ticks_end}
use Rattle.graft_laws.proofs.ticks.ticks_end.Goals as goal

pub returns : goal.returns
returns g c = ticks_end g.R.Rules.meaning g.R.Rules.laws
