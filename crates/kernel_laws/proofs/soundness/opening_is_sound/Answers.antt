use Rattle.kernel_laws.proofs.OpeningLemmas.{opening_is_sound}
use Rattle.kernel_laws.proofs.soundness.opening_is_sound.Goals as goal

pub returns : goal.returns
returns c = opening_is_sound
