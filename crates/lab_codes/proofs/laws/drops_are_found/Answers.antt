use Rattle.lab_codes.proofs.Found.{drops-are-found}
use Rattle.lab_codes.proofs.laws.drops_are_found.Goals as goal

pub returns : goal.returns
returns c = drops-are-found
