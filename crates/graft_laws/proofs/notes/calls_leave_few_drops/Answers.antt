use Rattle.graft_laws.proofs.HistoryLaws.{calls_leave_few_drops}
use Rattle.graft_laws.proofs.notes.calls_leave_few_drops.Goals as goal

pub returns : goal.returns
returns g c = calls_leave_few_drops g.R.Rules.meaning g.R.Rules.laws
