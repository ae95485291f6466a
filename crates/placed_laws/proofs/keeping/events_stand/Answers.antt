use Rattle.placed_laws.proofs.Laws.{events_stand}
use Rattle.placed_laws.proofs.keeping.events_stand.Goals as goal

pub returns : goal.returns
returns g c = events_stand g.R.Rules.meaning g.R.Rules.laws
