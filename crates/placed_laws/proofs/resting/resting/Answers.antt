use Rattle.placed_laws.proofs.Laws.{resting}
use Rattle.placed_laws.proofs.resting.resting.Goals as goal

pub returns : goal.returns
returns g c = resting g.R.Rules.meaning g.R.Rules.laws
