use Rattle.placed_laws.proofs.UndoLaws.{drops_undo}
use Rattle.placed_laws.proofs.undoing.drops_undo.Goals as goal

pub returns : goal.returns
returns g c = drops_undo g.R.Rules.meaning
