use Rattle.placed_laws.proofs.Laws.{sound_in_place}
use Rattle.placed_laws.proofs.soundness.sound_in_place.Goals as goal

pub returns : goal.returns
returns g c = sound_in_place g.R.Rules.meaning g.R.Rules.laws
