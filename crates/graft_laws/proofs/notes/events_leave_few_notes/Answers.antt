use Rattle.graft_laws.proofs.HistoryLaws.{events_leave_few_notes}
use Rattle.graft_laws.proofs.notes.events_leave_few_notes.Goals as goal

pub returns : goal.returns
returns g c = events_leave_few_notes g.R.Rules.meaning g.R.Rules.laws
