use Rattle.placed_laws.proofs.UndoLaws.{calls_undo_to_committed}
use Rattle.placed_laws.proofs.undoing.calls_undo_to_committed.Goals as goal

pub returns : goal.returns
returns g c = calls_undo_to_committed g.R.Rules.meaning g.R.Rules.laws
