use Rattle.graft_laws.proofs.HistoryLaws.{leaves_few_notes}
use Rattle.graft_laws.proofs.notes.leaves_few_notes.Goals as goal

pub returns : goal.returns
returns g c = leaves_few_notes g.R.Rules.meaning g.R.Rules.laws
