use Rattle.placed_laws.proofs.Laws.{ready_in_place}
use Rattle.placed_laws.proofs.soundness.ready_in_place.Goals as goal

pub returns : goal.returns
returns g c = ready_in_place g.R.Rules.meaning g.R.Rules.laws
