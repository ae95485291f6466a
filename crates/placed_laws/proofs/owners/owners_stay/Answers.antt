use Rattle.placed_laws.proofs.Laws.{owners_stay}
use Rattle.placed_laws.proofs.owners.owners_stay.Goals as goal

pub returns : goal.returns
returns c = owners_stay
