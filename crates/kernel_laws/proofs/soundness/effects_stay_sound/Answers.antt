use Rattle.kernel_laws.proofs.Laws.{effects_stay_sound}
use Rattle.kernel_laws.proofs.soundness.effects_stay_sound.Goals as goal

pub returns : goal.returns
returns c = effects_stay_sound
