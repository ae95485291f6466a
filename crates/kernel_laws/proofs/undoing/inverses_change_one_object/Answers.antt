use Rattle.kernel_laws.proofs.Laws.{inverses_change_one_object}
use Rattle.kernel_laws.proofs.undoing.inverses_change_one_object.Goals as goal

pub returns : goal.returns
returns c = inverses_change_one_object
