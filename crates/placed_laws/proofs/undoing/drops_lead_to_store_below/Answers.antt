use Rattle.placed_laws.proofs.UndoLaws.{drops_lead_to_store_below}
use Rattle.placed_laws.proofs.undoing.drops_lead_to_store_below.Goals as goal

pub returns : goal.returns
returns g c = drops_lead_to_store_below g.R.Rules.meaning g.R.Rules.laws
