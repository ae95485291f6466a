use Rattle.kernel_laws.proofs.Laws.{configs_stay_sound}
use Rattle.kernel_laws.proofs.soundness.configs_stay_sound.Goals as goal

pub returns : goal.returns
returns c = configs_stay_sound
