use Rattle.graft_laws.proofs.EventLemmas.{settling_stays_sound}
use Rattle.graft_laws.proofs.kernels.settling_stays_sound.Goals as goal

pub returns : goal.returns
returns g c = settling_stays_sound g.R.Rules.meaning
