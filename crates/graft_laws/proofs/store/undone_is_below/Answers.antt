use Rattle.graft_laws.proofs.HistoryLaws.{undone_is_below}
use Rattle.graft_laws.proofs.store.undone_is_below.Goals as goal

pub returns : goal.returns
returns g c = undone_is_below g.R.Rules.meaning
