use Rattle.kernel_laws.proofs.FrameLemmas.{changes_what_is_held}
use Rattle.kernel_laws.proofs.soundness.changes_what_is_held.Goals as goal

pub returns : goal.returns
returns c = changes_what_is_held
