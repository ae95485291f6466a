use Rattle.placed_laws.proofs.Laws.{same_stages}
use Rattle.placed_laws.proofs.agreeing.same_stages.Goals as goal

pub returns : goal.returns
returns g c = same_stages g.R.Rules.meaning g.R.Rules.laws
