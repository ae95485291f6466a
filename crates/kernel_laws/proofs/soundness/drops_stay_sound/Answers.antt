use Rattle.kernel_laws.proofs.Laws.{drops_stay_sound}
use Rattle.kernel_laws.proofs.soundness.drops_stay_sound.Goals as goal

pub returns : goal.returns
returns c = drops_stay_sound
