use Rattle.kernel_laws.proofs.UndoingLemmas.{inverses_commute}
use Rattle.kernel_laws.proofs.undoing.inverses_commute.Goals as goal

pub returns : goal.returns
returns c = inverses_commute
