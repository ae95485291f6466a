use Rattle.placed_laws.proofs.Laws.{drops_stand}
use Rattle.placed_laws.proofs.keeping.drops_stand.Goals as goal

pub returns : goal.returns
returns g c = drops_stand g.R.Rules.meaning g.R.Rules.laws
