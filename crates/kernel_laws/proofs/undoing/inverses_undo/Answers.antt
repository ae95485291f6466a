use Rattle.kernel_laws.proofs.Laws.{inverses_undo}
use Rattle.kernel_laws.proofs.undoing.inverses_undo.Goals as goal

pub returns : goal.returns
returns c = inverses_undo
