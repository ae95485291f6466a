use Rattle.graft_laws.proofs.MoreImageLemmas.{images_stay_sound}
use Rattle.graft_laws.proofs.kernels.images_stay_sound.Goals as goal

pub returns : goal.returns
returns g c = images_stay_sound g.R.Rules.meaning
