use Rattle.placed_laws.proofs.Laws.{same_blockers}
use Rattle.placed_laws.proofs.agreeing.same_blockers.Goals as goal

pub returns : goal.returns
returns g c = same_blockers g.R.Rules.meaning g.R.Rules.laws
