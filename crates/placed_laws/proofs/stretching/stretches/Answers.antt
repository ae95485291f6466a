use Rattle.placed_laws.proofs.Laws.{stretches}
use Rattle.placed_laws.proofs.stretching.stretches.Goals as goal

pub returns : goal.returns
returns g c = stretches g.R.Rules.meaning g.R.Rules.laws
