use Rattle.graft_laws.proofs.KernelStepLemmas.{drops_stay_sound_run}
use Rattle.graft_laws.proofs.kernels.drops_stay_sound.Goals as goal

pub returns : goal.returns
returns g c = drops_stay_sound_run g.R.Rules.meaning
