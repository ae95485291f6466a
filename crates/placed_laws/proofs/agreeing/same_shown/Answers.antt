use Rattle.placed_laws.proofs.Laws.{same_shown}
use Rattle.placed_laws.proofs.agreeing.same_shown.Goals as goal

pub returns : goal.returns
returns g c = same_shown g.R.Rules.meaning g.R.Rules.laws
