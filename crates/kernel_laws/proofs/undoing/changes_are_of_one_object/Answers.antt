use Rattle.kernel_laws.proofs.Laws.{changes_are_of_one_object}
use Rattle.kernel_laws.proofs.undoing.changes_are_of_one_object.Goals as goal

pub returns : goal.returns
returns c = changes_are_of_one_object
