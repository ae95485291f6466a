use Rattle.placed_laws.proofs.Laws.{others_stand}
use Rattle.placed_laws.proofs.keeping.others_stand.Goals as goal

pub returns : goal.returns
returns g c = others_stand g.R.Rules.meaning g.R.Rules.laws
