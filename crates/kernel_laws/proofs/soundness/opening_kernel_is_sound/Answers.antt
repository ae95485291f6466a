use Rattle.kernel_laws.proofs.Laws.{opening_kernel_is_sound}
use Rattle.kernel_laws.proofs.soundness.opening_kernel_is_sound.Goals as goal

pub returns : goal.returns
returns g c = opening_kernel_is_sound g.R.Rules.meaning
