use Rattle.placed_laws.proofs.Laws.{held_stays}
use Rattle.placed_laws.proofs.keeping.held_stays.Goals as goal

pub returns : goal.returns
returns g c = held_stays g.R.Rules.meaning g.R.Rules.laws
