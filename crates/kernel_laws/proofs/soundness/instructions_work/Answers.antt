use Rattle.kernel_laws.proofs.Laws.{instructions_work}
use Rattle.kernel_laws.proofs.soundness.instructions_work.Goals as goal

pub returns : goal.returns
returns c = instructions_work
