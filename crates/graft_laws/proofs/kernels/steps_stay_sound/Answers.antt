use Rattle.graft_laws.proofs.KernelStepLemmas.{steps_stay_sound}
use Rattle.graft_laws.proofs.kernels.steps_stay_sound.Goals as goal

pub returns : goal.returns
returns g c = steps_stay_sound g.R.Rules.meaning
