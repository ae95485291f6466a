use Rattle.placed_laws.proofs.UndoLaws.{undone_in_place}
use Rattle.placed_laws.proofs.undoing.undone_in_place.Goals as goal

pub returns : goal.returns
returns g c = undone_in_place g.R.Rules.meaning
