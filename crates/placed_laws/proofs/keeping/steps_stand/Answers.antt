use Rattle.placed_laws.proofs.Laws.{steps_stand}
use Rattle.placed_laws.proofs.keeping.steps_stand.Goals as goal

pub returns : goal.returns
returns g c = steps_stand g.R.Rules.meaning g.R.Rules.laws
