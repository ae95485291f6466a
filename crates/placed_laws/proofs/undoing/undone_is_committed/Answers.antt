use Rattle.placed_laws.proofs.UndoLaws.{undone_is_committed}
use Rattle.placed_laws.proofs.undoing.undone_is_committed.Goals as goal

pub returns : goal.returns
returns g c = undone_is_committed g.R.Rules.meaning
