use Rattle.graft_laws.proofs.EventLemmas.{events_stay_sound}
use Rattle.graft_laws.proofs.kernels.events_stay_sound.Goals as goal

pub returns : goal.returns
returns g c = events_stay_sound g.R.Rules.meaning
