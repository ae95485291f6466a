use Rattle.kernel_laws.proofs.PieceLemmas.{pieces_stay_sound}
use Rattle.kernel_laws.proofs.soundness.pieces_stay_sound.Goals as goal

pub returns : goal.returns
returns g c = pieces_stay_sound g.R.Rules.meaning g.R.Rules.laws
